-- `listing::show::show_all` meets its contract. Assumes nothing.
use Rattle.std.proofs.Common.{◌≡◌, ◌-◌, ◌%◌, ◌<◌, length, arith, rules}
use Rattle.std.proofs.lemmas.Result.{IfOk-at_ok}
use Rattle.std.specs.Io.KnownBytes.{IsAtEnd}
use Rattle.listing.specs.Session.{frames_of, lines_of, last_lines}
use Rattle.listing.proofs.Shown.{reads_more, so_far_more, prints_last, ready_frames}
use Rattle.listing.proofs.show.show_all.Goals as goal

pub returns-in-Err-clause-reads : goal.returns-in-Err-clause-reads
returns-in-Err-clause-reads g c =
    let so_far = c.loop-error.invariant.so_far in
    let read = c.read_some-read.ensures in
    reads_more _ _ _ _ _ so_far.octets _ so_far.count read.most so_far.front read.bytes

pub returns-then-octets-lt896-clause-reads : goal.returns-then-octets-lt896-clause-reads
returns-then-octets-lt896-clause-reads g c =
    let so_far = c.loop-error.invariant.so_far in
    let read = c.read_some-read.ensures in
    reads_more _ _ _ _ _ so_far.octets _ so_far.count read.most so_far.front read.bytes

pub returns-then-octets-lt896-clause-prints : goal.returns-then-octets-lt896-clause-prints
returns-then-octets-lt896-clause-prints g c =
    let so_far = c.loop-error.invariant.so_far in
    let read = c.read_some-read.ensures in
    let chunk = c.read_some-read.result.0.now in
    let size : length c.loop-error.room ≡ 896 = search rules in
    let lines : c.deref.result.now ≡ lines_of c.loop-error.session (frames_of chunk) = search rules in
    let last : c.deref-then-octets-lt896.result.now ≡ last_lines c.show_frames-session.result (length chunk % 14) = search rules in
    let finished : 0 < c.loop-error.left - length chunk → IsAtEnd (g.R.Read.remaining c.read_some-read.new.input) = λ more. IfOk-at_ok _ c.in_default.is read.end (omega arith) (omega arith) in
    rw (c.and.ensures, c.and-said.ensures) (prints_last _ _ _ _ _ _ _ _ _ _ _ _ _ chunk so_far read.most read.bytes c.show_frames-session.ensures.session (rw lines at c.write_all.ensures.bytes) _ _ finished (rw last at c.write_all-then-octets-lt896.ensures.bytes))

pub loop-error-preserved : goal.loop-error-preserved
loop-error-preserved g c =
    let so_far = c.loop-error.invariant.so_far in
    let read = c.read_some-read.ensures in
    let chunk = c.read_some-read.result.0.now in
    let size : length c.loop-error.room ≡ 896 = search rules in
    let lines : c.deref.result.now ≡ lines_of c.loop-error.session (frames_of chunk) = search rules in
    record {
      ready = rw c.show_frames-session.ensures.session (ready_frames _ _ _ c.loop-error.invariant.ready read.most);
      so_far =
          rw c.and-said.ensures
          (so_far_more _ _ _ _ _ _ _ _ _ _ _ _ _ chunk so_far read.most read.bytes c.show_frames-session.ensures.session (rw lines at c.write_all.ensures.bytes) (omega arith));
    }
