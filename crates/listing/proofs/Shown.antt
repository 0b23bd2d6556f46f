-- Laws on a listing that is read and printed a chunk at a time. Assumes nothing.
use Rattle.std.proofs.Common.{◌≡◌, ℕ, zero, suc, ◌+◌, ◌-◌, ◌/◌, ◌%◌, ◌≤◌, ◌<◌, List, [], ◌∷◌, ◌++◌, length, take, drop, Option, None, Some, Result, Ok, Err, OnOk, refl, sym, ap, ap₂, ◌∙◌, subst, arith, append_assoc, append-nil, length-append, take_all, take_at, drop_at, inl, inr}
use Rattle.std.specs.Result.{result_and}
use Rattle.std.proofs.lemmas.Result.{on_ok_weaker}
use Rattle.std.proofs.lemmas.Bool.{cases_lt}
use Rattle.std.specs.Io.KnownBytes.{Appends, Consumes, IsAtEnd}
use Rattle.std.proofs.KnownBytes.{Appends-trans, Consumes-trans}
use Rattle.std.proofs.Math.Seq.{take-append-add}
use Rattle.listing.specs.Line.{header_line, identity_line}
use Rattle.receiver.specs.declared.ArqReassembler.{ArqReassembler}
use Rattle.spach.specs.Refusal.{gives, refuses}
use Rattle.receiver.specs.Demand3.{Push}
use Rattle.listing.specs.declared.Session.{Session}
use Rattle.listing.specs.Session.{pushes_of, frames_of, step_of, after_of, lines_of, last_lines, rest_of, new_session, open_of, listing_of, listing_from, Ready, Reads, ReadsAll, Prints}
use Rattle.listing.proofs.Sessions.{ready_step, frames_append, after-append, lines-append}

-- ---- frames of several chunks

-- n frames may come, and some of them did
ready_after : (x : Session) (l : List Push) (n m : ℕ) → Ready x n → length l + m ≤ n → Ready (after_of x l) m
ready_after x [] n m r h = record { valid = r.valid; frames = omega (arith, r.frames); messages = r.messages }
ready_after x (p ∷ l) n m r h = ready_after (step_of x p) l (n - 1) m (ready_step x p n (n - 1) r (omega arith)) (omega arith)

length-pushes_of : (n : ℕ) (xs : List ℕ) → length (pushes_of n xs) ≡ n
length-pushes_of zero xs = refl
length-pushes_of (suc n) xs = ap suc (length-pushes_of n (drop 14 xs))

pub ready_frames : (x : Session) (xs : List ℕ) (left : ℕ) → Ready x (left / 14) → length xs ≤ left → Ready (after_of x (frames_of xs)) ((left - length xs) / 14)
ready_frames x xs left r h =
    let n = length-pushes_of (length xs / 14) xs in
    ready_after x (frames_of xs) (left / 14) ((left - length xs) / 14) r (omega arith)

module _ (x : Session) (a c : List ℕ) (whole : length a % 14 ≡ 0) where
  pub after_parts : after_of x (frames_of (a ++ c)) ≡ after_of (after_of x (frames_of a)) (frames_of c)
  after_parts = ap (after_of x) (frames_append a c whole) ∙ after-append x (frames_of a) (frames_of c)

  pub lines_parts : lines_of x (frames_of (a ++ c)) ≡ lines_of x (frames_of a) ++ lines_of (after_of x (frames_of a)) (frames_of c)
  lines_parts = ap (lines_of x) (frames_append a c whole) ∙ lines-append x (frames_of a) (frames_of c)

  -- the lines after the first: those of whole frames, and of what follows them
  pub rest_parts : rest_of x (a ++ c) ≡ lines_of x (frames_of a) ++ rest_of (after_of x (frames_of a)) c
  unfolding rest_of
  rest_parts =
      let cut : length (a ++ c) % 14 ≡ length c % 14 = omega (arith, length-append a c) in
      rw (lines_parts, after_parts, cut) (append_assoc (lines_of x (frames_of a)) (lines_of (after_of x (frames_of a)) (frames_of c)) _)

-- ---- two writes

pub on_both : {T U E : Type 0} (r : Result T E) (s : Result U E) (P Q : Type 0) → OnOk r P → OnOk s Q → OnOk (result_and r s) (P × Q)
on_both (Ok x) (Ok y) P Q p q = (p, q)
on_both (Ok x) (Err e) P Q p q = tt
on_both (Err e) s P Q p q = tt

-- ---- what is read

pub reads_more : (limit left : ℕ) (a b c : Option (List ℕ)) (front more : List ℕ) → left + length front ≡ limit → length more ≤ left → Consumes a b front → Consumes b c more
    → Reads limit (left - length more) a c
reads_more limit left a b c front more n m p q = record { octets = front ++ more; count = omega (arith, length-append front more); front = Consumes-trans a b c front more p q }

-- all was read that could be, so the first `limit` octets of the input
pub take-all_read : (limit left : ℕ) (xs ys octets : List ℕ) → left + length octets ≡ limit → xs ≡ octets ++ ys → (0 < left → ys ≡ []) → take limit xs ≡ octets
take-all_read limit left xs ys octets n e end =
    elim (cases_lt 0 left) [
      | inl more ↦ rw (e, end more, append-nil) (take_all limit octets (omega arith))
      | inr none ↦ rw e (take_at octets ys limit (omega arith))
    ]

-- its text was printed
pub prints_all : (text : List ℕ → List ℕ) (limit left : ℕ) (a b before after : Option (List ℕ)) (octets : List ℕ) → left + length octets ≡ limit → Consumes a b octets
    → (0 < left → IsAtEnd b) → Appends before after (text octets) → Prints text limit a before after
prints_all text limit left None b before after octets n c end p = tt
prints_all text limit left (Some xs) None before after octets n c end p = absurd c
prints_all text limit left (Some xs) (Some ys) before after octets n c end p = rw (take-all_read limit left xs ys octets n c end) p

-- ---- chunk after chunk

-- the input's front was read, whole frames, and their lines were printed if all writes succeeded
pub record SoFar {E : Type 0} (x : Session) (limit : ℕ) (old new before after : Option (List ℕ)) (y : Session) (left : ℕ) (said : Result (Unit {0}) E) : Type 0 where
  pub octets : List ℕ
  pub whole : length octets % 14 ≡ 0
  pub count : left + length octets ≡ limit
  pub front : Consumes old new octets
  pub session : y ≡ after_of x (frames_of octets)
  pub lines : OnOk said (Appends before after (lines_of x (frames_of octets)))

module _ {E : Type 0} (x : Session) (limit left : ℕ) (old new next before after later : Option (List ℕ)) (y z : Session) (said wrote : Result (Unit {0}) E) (chunk : List ℕ)
    (g : SoFar x limit old new before after y left said) (few : length chunk ≤ left) (read : Consumes new next chunk) (step : z ≡ after_of y (frames_of chunk))
    (lines : OnOk wrote (Appends after later (lines_of y (frames_of chunk)))) where
  -- a chunk of whole frames more
  pub so_far_more : length chunk % 14 ≡ 0 → SoFar x limit old next before later z (left - length chunk) (result_and said wrote)
  so_far_more whole =
      let both = length-append g.octets chunk in record {
        octets = g.octets ++ chunk;
        whole = omega (arith, both, g.whole);
        count = omega (arith, both, g.count);
        front = Consumes-trans old new next g.octets chunk g.front read;
        session = step ∙ ap (λ s. after_of s (frames_of chunk)) g.session ∙ sym (after_parts x g.octets chunk g.whole);
        lines =
            on_ok_weaker (result_and said wrote)
            (λ (p : Appends before after (lines_of x (frames_of g.octets)) × Appends after later (lines_of y (frames_of chunk))).
            rw (lines_parts x g.octets chunk g.whole, ← g.session) (Appends-trans before after later _ _ p.0 p.1))
            (on_both said wrote _ _ g.lines lines);
      }

  joined : lines_of x (frames_of g.octets) ++ (lines_of y (frames_of chunk) ++ last_lines z (length chunk % 14)) ≡ rest_of x (g.octets ++ chunk)
  unfolding rest_of
  joined = rw (step, g.session) (sym (rest_parts x g.octets chunk g.whole))

  -- the last chunk, and the last lines
  pub prints_last : (end : Option (List ℕ)) (last : Result (Unit {0}) E) → (0 < left - length chunk → IsAtEnd next)
      → OnOk last (Appends later end (last_lines z (length chunk % 14))) → OnOk (result_and (result_and said wrote) last) (Prints (rest_of x) limit old before end)
  prints_last end last finished ends =
      let both = length-append g.octets chunk in
      on_ok_weaker (result_and (result_and said wrote) last)
      (λ (p : (Appends before after (lines_of x (frames_of g.octets)) × Appends after later (lines_of y (frames_of chunk))) × Appends later end (last_lines z (length chunk % 14))).
      prints_all (rest_of x) limit (left - length chunk) old next before end (g.octets ++ chunk) (omega (arith, both, g.count)) (Consumes-trans old new next g.octets chunk g.front read) finished
      (subst (Appends before end) joined (Appends-trans before after end _ _ p.0.0 (Appends-trans after later end _ _ p.0.1 p.1))))
      (on_both (result_and said wrote) last _ _ (on_both said wrote _ _ g.lines lines) ends)

-- ---- the identity, and what follows it

-- no more is read if it is refused
pub reads_first : (limit : ℕ) (a b : Option (List ℕ)) (first : List ℕ) → length first ≤ limit → length first ≤ 9 → Consumes a b first → ReadsAll limit (limit - length first) a b
reads_first limit a b first m n p = record { read = record { octets = first; count = omega arith; front = p }; refused = λ k e. n }

-- of the octets that may be read, those after the first ones
take-append_front : (limit : ℕ) (first ys : List ℕ) → length first ≤ limit → take limit (first ++ ys) ≡ first ++ take (limit - length first) ys
take-append_front limit first ys m =
    let sum : limit ≡ length first + (limit - length first) = omega arith in
    ap (λ k. take k (first ++ ys)) sum ∙ take-append-add first ys (limit - length first)

-- nine octets, or fewer if that is all, are the identity
take-first : (limit : ℕ) (first ys : List ℕ) → length first ≤ limit → length first ≤ 9 → (length first < 9 → length first < limit → ys ≡ []) → take 9 (take limit (first ++ ys)) ≡ first
take-first limit first ys m n end =
    elim (cases_lt (length first) 9) [
      | inl short ↦ rw (take-all_read limit (limit - length first) (first ++ ys) ys first (omega arith) refl (λ more. end short (omega arith))) (take_all 9 first (omega arith))
      | inr full ↦ rw (take-append_front limit first ys m) (take_at first (take (limit - length first) ys) 9 (omega arith))
    ]

-- one line if it is refused
pub prints_refused : (limit k : ℕ) (a b before after : Option (List ℕ)) (first : List ℕ) → length first ≤ limit → length first ≤ 9 → Consumes a b first
    → (length first < 9 → length first < limit → IsAtEnd b) → open_of first ≡ refuses k → Appends before after identity_line → Prints listing_of limit a before after
unfolding listing_of
prints_refused limit k None b before after first m n p end e w = tt
prints_refused limit k (Some xs) None before after first m n p end e w = absurd p
prints_refused limit k (Some xs) (Some ys) before after first m n p end e w = rw (p, take-first limit first ys m n end, e) w

-- the header, and the lines of what follows
prints_after : (limit : ℕ) (s : ArqReassembler) (a b before after end : Option (List ℕ)) (first : List ℕ) → length first ≤ limit → length first ≡ 9 → Consumes a b first
    → open_of first ≡ gives s → Appends before after header_line → Prints (rest_of (new_session s)) (limit - length first) b after end
    → Prints listing_of limit a before end
unfolding listing_of
prints_after limit s None b before after end first m n p e w rest = tt
prints_after limit s (Some xs) None before after end first m n p e w rest = absurd p
prints_after limit s (Some xs) (Some ys) before after end first m n p e w rest =
    let others = take (limit - length first) ys in
    rw (p, take-append_front limit first ys m, take_at first others 9 n, drop_at first others 9 n, e) (Appends-trans before after end _ _ w rest)

pub prints_given : {E : Type 0} (limit : ℕ) (s : ArqReassembler) (a b before after end : Option (List ℕ)) (first : List ℕ) (said listed : Result (Unit {0}) E)
    → length first ≤ limit → length first ≡ 9 → Consumes a b first → open_of first ≡ gives s → OnOk said (Appends before after header_line)
    → OnOk listed (Prints (rest_of (new_session s)) (limit - length first) b after end) → OnOk (result_and said listed) (Prints listing_of limit a before end)
prints_given limit s a b before after end first said listed m n p e w rest =
    on_ok_weaker (result_and said listed)
    (λ (q : Appends before after header_line × Prints (rest_of (new_session s)) (limit - length first) b after end).
    prints_after limit s a b before after end first m n p e q.0 q.1)
    (on_both said listed _ _ w rest)

-- what was read of all
pub reads_given : (limit left : ℕ) (s : ArqReassembler) (a b c : Option (List ℕ)) (first : List ℕ) → length first ≤ limit → length first ≡ 9 → Consumes a b first → open_of first ≡ gives s
    → Reads (limit - length first) left b c → ReadsAll limit left a c
reads_given limit left s a b c first m n p e r = record {
  read = record { octets = first ++ r.octets; count = omega (arith, length-append first r.octets, r.count); front = Consumes-trans a b c first r.octets p r.front };
  refused = λ k refused. let same = ap open_of (take_at first r.octets 9 n) in absurd cc;
}

-- ---- the same of lists alone: chunk after chunk comes to the listing of the whole

-- an input in chunks: full ones, and the last
abbrev pub input_of : List (List ℕ) → List ℕ → List ℕ
input_of [] c = c
input_of (a ∷ cs) c = a ++ input_of cs c

abbrev pub Full : List (List ℕ) → Type 0
Full [] = Unit
Full (a ∷ cs) = (length a ≡ 896) × Full cs

-- the lines of each, from the session that the one before it left
abbrev pub chunk_lines : Session → List (List ℕ) → List ℕ → List ℕ
chunk_lines x [] c = lines_of x (frames_of c)
chunk_lines x (a ∷ cs) c = lines_of x (frames_of a) ++ chunk_lines (after_of x (frames_of a)) cs c

-- the session that the last leaves
abbrev pub chunk_after : Session → List (List ℕ) → List ℕ → Session
chunk_after x [] c = after_of x (frames_of c)
chunk_after x (a ∷ cs) c = chunk_after (after_of x (frames_of a)) cs c

chunks_lines : (x : Session) (cs : List (List ℕ)) (c : List ℕ) → Full cs → lines_of x (frames_of (input_of cs c)) ≡ chunk_lines x cs c
chunks_lines x [] c f = refl
chunks_lines x (a ∷ cs) c f =
    lines_parts x a (input_of cs c) (omega (arith, f.0)) ∙ ap (λ l. lines_of x (frames_of a) ++ l) (chunks_lines (after_of x (frames_of a)) cs c f.1)

chunks_after : (x : Session) (cs : List (List ℕ)) (c : List ℕ) → Full cs → after_of x (frames_of (input_of cs c)) ≡ chunk_after x cs c
chunks_after x [] c f = refl
chunks_after x (a ∷ cs) c f = after_parts x a (input_of cs c) (omega (arith, f.0)) ∙ chunks_after (after_of x (frames_of a)) cs c f.1

chunks_cut : (cs : List (List ℕ)) (c : List ℕ) → Full cs → length (input_of cs c) % 14 ≡ length c % 14
chunks_cut [] c f = refl
chunks_cut (a ∷ cs) c f = omega (arith, length-append a (input_of cs c), f.0, chunks_cut cs c f.1)

-- the listing of an input is the header, the lines of chunk after chunk, and the last lines
pub listing_chunks : (i : List ℕ) (s : ArqReassembler) (cs : List (List ℕ)) (c : List ℕ) → length i ≡ 9 → open_of i ≡ gives s → Full cs
    → listing_of (i ++ input_of cs c) ≡ header_line ++ chunk_lines (new_session s) cs c ++ last_lines (chunk_after (new_session s) cs c) (length c % 14)
unfolding listing_of rest_of
listing_chunks i s cs c e o f =
    let r = input_of cs c in
    ap₂ listing_from (ap open_of (take_at i r 9 e) ∙ o) (drop_at i r 9 e)
    ∙ ap (λ l. header_line ++ l ++ last_lines (after_of (new_session s) (frames_of r)) (length r % 14)) (chunks_lines (new_session s) cs c f)
    ∙ ap₂ (λ (y : Session) (k : ℕ). header_line ++ chunk_lines (new_session s) cs c ++ last_lines y k) (chunks_after (new_session s) cs c f) (chunks_cut cs c f)
