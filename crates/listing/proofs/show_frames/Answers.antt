-- `listing::show_frames` meets its contract. Assumes nothing.
use Rattle.std.proofs.Common.{◌≡◌, ℕ, ◌≤◌, List, [], ◌++◌, rules, arith, ap, ◌∙◌, length, take, drop, length-append, length-take-le, take_at, drop_at}
use Rattle.hex_lines.proofs.Lines.{drop_later}
use Rattle.listing.specs.Text.{Wrote}
use Rattle.listing.specs.Session.{frames_of, after_of}
use Rattle.listing.proofs.Sessions.{going_more, after-runs}
use Rattle.listing.proofs.show_frames.Goals as goal

-- what stands before the place after a text that was written, and from there on
wrote_front : (before after : List ℕ) (i end : ℕ) (x : List ℕ) → i ≤ length before → Wrote before after i end x → take end after ≡ take i before ++ x
wrote_front before after i end x h w =
    ap (take end) w.text ∙ take_at (take i before ++ x) (drop end before) end (omega (arith, length-append (take i before) x, length-take-le i before h, w.place))

wrote_rest : (before after : List ℕ) (i end : ℕ) (x : List ℕ) → i ≤ length before → Wrote before after i end x → drop end after ≡ drop end before
wrote_rest before after i end x h w =
    ap (drop end) w.text ∙ drop_at (take i before ++ x) (drop end before) end (omega (arith, length-append (take i before) x, length-take-le i before h, w.place))

pub loop-next-preserved : goal.loop-next-preserved
loop-next-preserved c =
    let at = c.loop-next.invariant in
    let steps = c.in-Some.ensures.steps in
    let size = steps.1.1 ∙ at.size in
    let show = c.show_frame-end.ensures in
    let n = ap length steps.1.0 ∙ length-append c.in-Some.next.now _ in
    let within : c.loop-next.to ≤ length c.loop-next.text = omega (arith, at.room) in
    let front = wrote_front _ _ _ _ _ within show.wrote in
    let same : length c.show_frame-end.new.text ≡ length c.loop-next.text = search rules in record {
      can_next = search rules;
      ends = tt;
      size = search rules;
      room = omega (arith, at.room, show.most, n, size, same);
      going = going_more c.args.session c.args.octets.now [] _ _ _ c.in-Some.next.now _ _ _ at.going steps.1.0 size show.session front;
      rest = wrote_rest _ _ _ _ _ within show.wrote ∙ drop_later _ _ c.loop-next.to c.show_frame-end.result.1 (omega (arith, show.wrote.place)) at.rest;
    }

pub returns-clause-state : goal.returns-clause-state
returns-clause-state c =
    let session : c.loop-next.session ≡ after_of c.args.session (frames_of c.args.octets.now) = search rules in
    ap (λ x. x.receiver) session ∙ after-runs c.args.session (frames_of c.args.octets.now)
