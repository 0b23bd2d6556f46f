-- `listing::show::show_told` meets its contract. Assumes nothing.
use Rattle.std.proofs.Common.{arith, sym}
use Rattle.std.proofs.lemmas.Result.{IfOk-at_ok, on_ok_weaker}
use Rattle.listing.proofs.Opened.{opened_valid, opened_nine}
use Rattle.listing.proofs.Shown.{reads_first, reads_given, prints_refused, prints_given}
use Rattle.listing.proofs.show.show_told.Goals as goal

pub returns-in-Err-clause-reads : goal.returns-in-Err-clause-reads
returns-in-Err-clause-reads g c =
    let read = c.read_some-read.ensures in
    reads_first _ _ _ c.read_some-read.result.0.now read.most (omega (arith, read.inside)) read.bytes

pub returns-in_default-open-clause-reads : goal.returns-in_default-open-clause-reads
returns-in_default-open-clause-reads g c =
    let read = c.read_some-read.ensures in
    reads_first _ _ _ c.read_some-read.result.0.now read.most (omega (arith, read.inside)) read.bytes

pub returns-in_default-open-clause-prints : goal.returns-in_default-open-clause-prints
returns-in_default-open-clause-prints g c =
    let read = c.read_some-read.ensures in
    on_ok_weaker c.write_all.result
    (prints_refused _ _ _ _ _ _ _ read.most (omega (arith, read.inside)) read.bytes (IfOk-at_ok _ c.in_default.is read.end) (sym c.in_default-open.ensures))
    c.write_all.ensures.bytes

pub show_all-left-requires : goal.show_all-left-requires
show_all-left-requires g c = opened_valid _ _ (sym c.in-Ok.ensures)

pub returns-clause-reads : goal.returns-clause-reads
returns-clause-reads g c =
    let read = c.read_some-read.ensures in
    let given = sym c.in-Ok.ensures in
    reads_given _ _ _ _ _ _ _ read.most (omega (arith, read.inside, opened_nine _ _ given)) read.bytes given c.show_all-left.ensures.reads

pub returns-clause-prints : goal.returns-clause-prints
returns-clause-prints g c =
    let read = c.read_some-read.ensures in
    let given = sym c.in-Ok.ensures in
    rw c.and.ensures
    (prints_given _ _ _ _ _ _ _ _ _ _ read.most (omega (arith, read.inside, opened_nine _ _ given)) read.bytes given c.write_all-said.ensures.bytes c.show_all-left.ensures.prints)
