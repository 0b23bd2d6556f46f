-- `listing::Session::show_frame` meets its contract. Assumes nothing.
use Rattle.std.proofs.Common.{◌≡◌, arith, rules, sym, ap, length}
use Rattle.listing.proofs.Sessions.{inside_of}
use Rattle.listing.proofs.Session.show_frame.Goals as goal

pub put_line-requires : goal.put_line-requires
put_line-requires g c =
    let size : length c.push-answer.new.buffer ≡ 255 = search rules in
    let inside = inside_of c.args.self.receiver c.args.octets.now _ _ (sym (ap (λ o. o.outcome) c.push-answer.ensures)) c.requires.ready.valid in
    (search rules, (rw size inside, omega arith))
