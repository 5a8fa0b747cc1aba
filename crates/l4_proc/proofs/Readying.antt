-- A processor gets ready for a turn, and posts the letters of the turn.
use Rattle.std.proofs.Common.{◌≡◌, ℕ, ◌+◌, ◌-◌, ◌≤◌, Bool, true, false, Option, Some, None, List, [], ◌∷◌, ◌++◌, length, take, refl, ap, sym, ◌∙◌, subst, arith, append_assoc, append-nil, length-append}
use Rattle.std.specs.Prelude.{IfSome, IfNone, nat_eq, is_some, slice_index_or}
use Rattle.std.specs.List.{AllByRecursion}
use Rattle.std.proofs.lemmas.Bool.{eqb-true, eqb-false}
use Rattle.std.proofs.lemmas.List.{length-map, take-append-le, take_all}
use Rattle.l4_core_model.specs.Letters as letters
use Rattle.l4_merge.specs.Transitions.{letters_with}
use Rattle.l4_core_model.specs.Letters.{Letter}
use Rattle.l4_core.specs.Processor.{Processor}
use Rattle.l4_mail.specs.Ends.{ring_out}
use Rattle.l4_mail.specs.Ports.{Place, place, posted_to, taken_from, kept_from, room_to, only, HasWayTo, IsAsBefore, HasPosted, HasTaken}
use Rattle.l4_mail.specs.declared.ports.Port.{Port}
use Rattle.l4_proc.specs.Logs.{HasBegun, HasLetters, IsClosed}
use Rattle.l4_proc.specs.Working.{HadNoLetter}
use Rattle.l4_proc.specs.Whole.{hand_from, handled_from, IsInHand, IsPortOf, IsWhole}
use Rattle.l4_proc.specs.declared.log.Log.{Log}
use Rattle.l4_proc.specs.declared.worker.Worker.{Worker}
use Rattle.l4_proc.proofs.Logging.{begun_closed}

-- A port in its place

pub port_kept : (old new : Port) (core : Processor) → place new ≡ place old → IsPortOf old core → IsPortOf new core
port_kept old new core same is = record {
  number = ap (λ (p : Place). p.cpu) same ∙ is.number;
  size = sym (length-map new.outlets.items ring_out) ∙ ap (λ (p : Place). length p.outs) same ∙ length-map old.outlets.items ring_out ∙ is.size;
  ways = λ to within other. ap (λ (p : Place). is_some (slice_index_or p.outs to None)) same ∙ is.ways to within other;
}

pub way_before : (old new : Port) (to : ℕ) → place new ≡ place old → HasWayTo new to → HasWayTo old to
way_before old new to same way = (way.0, sym (ap (λ (p : Place). slice_index_or p.outs to None) same) ∙ way.1)

pub way_after : (old new : Port) (to : ℕ) → place new ≡ place old → HasWayTo old to → HasWayTo new to
way_after old new to same way = (way.0, ap (λ (p : Place). slice_index_or p.outs to None) same ∙ way.1)

pub in_hand_kept : (old new : Port) (hand : Option (ℕ × Letter)) → ((from : ℕ) → taken_from new from ≡ taken_from old from) → IsInHand old hand → IsInHand new hand
in_hand_kept old new hand same is from =
    let n = length (hand_from hand from) in
    subst (λ (ls : List Letter). ls ≡ take (length ls - n) ls ++ hand_from hand from) (sym (same from)) (is from)

pub whole_kept : (old new : Port) (w : Worker) (log : Log) → place new ≡ place old → ((from : ℕ) → taken_from new from ≡ taken_from old from) →
    log.cpu ≡ w.log.cpu → (IsClosed w.log → IsClosed log) → IsWhole old w → IsWhole new (record { core = w.core; log = log; hand = w.hand; stop = w.stop })
whole_kept old new w log same taken cpu closed is = record {
  port_of = port_kept old new w.core same is.port_of;
  log_of = cpu ∙ is.log_of;
  closed = closed is.closed;
  hand = in_hand_kept old new w.hand taken is.hand;
}

-- Room, and the next letter

pub as_before_then : (a b c : Port) → IsAsBefore a b → IsAsBefore b c → IsAsBefore a c
as_before_then a b c first next = record {
  place = next.place ∙ first.place;
  posted = λ to. next.posted to ∙ first.posted to;
  taken = λ from. next.taken from ∙ first.taken from;
  kept = λ from. next.kept from ∙ first.kept from;
  room = λ to. omega (arith, first.room to, next.room to);
}

-- What came next is in hand now, where anything has come.
pub record HasNext (old new : Port) (hand : Option (ℕ × Letter)) : Type 0 where
  pub place : place new ≡ place old
  pub posted : (to : ℕ) → posted_to new to ≡ posted_to old to
  pub taken : (from : ℕ) → taken_from new from ≡ taken_from old from ++ hand_from hand from
  pub room : (to : ℕ) → room_to old to ≤ room_to new to
  pub kept : hand ≡ None → (from : ℕ) → kept_from new from ≡ []
  pub had : hand ≡ None → (from : ℕ) → kept_from old from ≡ []

pub next_taken : (old new : Port) (hand : Option (ℕ × Letter)) → IfSome hand (λ r. HasTaken old new r.0 r.1) → IfNone hand (IsAsBefore old new) →
    IfNone hand ((from : ℕ) → kept_from old from ≡ []) → HasNext old new hand
next_taken old new None some same none = record {
  place = same.place;
  posted = same.posted;
  taken = λ from. same.taken from ∙ sym (append-nil (taken_from old from));
  room = same.room;
  kept = λ is from. same.kept from ∙ none from;
  had = λ is. none;
}
next_taken old new (Some p) has same none = record {
  place = has.place;
  posted = has.posted;
  taken = has.taken;
  room = λ to. omega (arith, has.room to);
  kept = λ is. absurd cc;
  had = λ is. absurd cc;
}

front : (ls more : List Letter) → take (length (ls ++ more) - length more) (ls ++ more) ≡ ls
front ls more =
    let n = length (ls ++ more) - length more in
    let is : n ≡ length ls = omega (arith, length-append ls more) in
    take-append-le n ls more (omega (arith, is)) ∙ take_all n ls (omega (arith, is))

pub next_handled : (old new : Port) (hand : Option (ℕ × Letter)) → HasNext old new hand → (from : ℕ) → handled_from new hand from ≡ taken_from old from
next_handled old new hand next from =
    let more = hand_from hand from in
    ap (λ (ls : List Letter). take (length ls - length more) ls) (next.taken from) ∙ front (taken_from old from) more

pub next_in_hand : (old new : Port) (hand : Option (ℕ × Letter)) → HasNext old new hand → IsInHand new hand
next_in_hand old new hand next from = next.taken from ∙ ap (λ (ls : List Letter). ls ++ hand_from hand from) (sym (next_handled old new hand next from))

pub all_handled : (port : Port) (from : ℕ) → handled_from port None from ≡ taken_from port from
all_handled port from = take_all (length (taken_from port from) - 0) (taken_from port from) (omega arith)

pub whole_next : (start old new : Port) (w : Worker) (log : Log) (hand : Option (ℕ × Letter)) → IsAsBefore start old → HasNext old new hand → HasBegun w.log log →
    IsWhole start w → IsWhole new (record { core = w.core; log = log; hand = hand; stop = w.stop })
whole_next start old new w log hand before next begun is = record {
  port_of = port_kept start new w.core (next.place ∙ before.place) is.port_of;
  log_of = begun.cpu ∙ is.log_of;
  closed = begun_closed w.log log begun is.closed;
  hand = next_in_hand old new hand next;
}

-- There is room for what a turn may post.
abbrev pub HasRoomForTurn : Port → Type 0
HasRoomForTurn port = (to : ℕ) → HasWayTo port to → 2 ≤ room_to port to

-- The port is ready for a turn, with this letter in hand.
pub record IsReadied (old new : Port) (was hand : Option (ℕ × Letter)) : Type 0 where
  pub place : place new ≡ place old
  pub posted : (to : ℕ) → posted_to new to ≡ posted_to old to
  pub handled : (from : ℕ) → handled_from new hand from ≡ handled_from old was from
  pub room : HasRoomForTurn new
  pub kept : hand ≡ None → (from : ℕ) → kept_from new from ≡ []
  pub had : hand ≡ None → HadNoLetter old was

room_kept : (old new : Port) → place new ≡ place old → ((to : ℕ) → room_to old to ≤ room_to new to) → HasRoomForTurn old → HasRoomForTurn new
room_kept old new same more room to way = omega (arith, more to, room to (way_before old new to same way))

empty_hand : (hand : Option (ℕ × Letter)) → is_some hand ≡ false → hand ≡ None
empty_hand None is = refl
empty_hand (Some p) is = absurd cc

pub readied_empty : (old reserved flushed new : Port) (was hand : Option (ℕ × Letter)) → is_some was ≡ false → IsAsBefore old reserved → HasRoomForTurn reserved →
    IsAsBefore reserved flushed → HasNext flushed new hand → IsReadied old new was hand
readied_empty old reserved flushed new was hand none first room flush next = record {
  place = next.place ∙ flush.place ∙ first.place;
  posted = λ to. next.posted to ∙ flush.posted to ∙ first.posted to;
  handled = λ from. next_handled flushed new hand next from ∙ flush.taken from ∙ first.taken from
      ∙ sym (ap (λ (h : Option (ℕ × Letter)). handled_from old h from) (empty_hand was none) ∙ all_handled old from);
  room = room_kept flushed new next.place next.room (room_kept reserved flushed flush.place flush.room room);
  kept = next.kept;
  had = λ is. record { empty = empty_hand was none; kept = λ from. sym (flush.kept from ∙ first.kept from) ∙ next.had is from };
}

-- No letter was in hand, and none has come.
next_none : (port : Port) → ((from : ℕ) → kept_from port from ≡ []) → HasNext port port None
next_none port none = record {
  place = refl;
  posted = λ to. refl;
  taken = λ from. sym (append-nil (taken_from port from));
  room = λ to. omega arith;
  kept = λ is. none;
  had = λ is. none;
}

pub readied_idle : (old reserved flushed : Port) (was : Option (ℕ × Letter)) → is_some was ≡ false → IsAsBefore old reserved → HasRoomForTurn reserved →
    IsAsBefore reserved flushed → ((from : ℕ) → kept_from flushed from ≡ []) → IsReadied old flushed was was
readied_idle old reserved flushed was none first room flush kept =
    subst (λ (hand : Option (ℕ × Letter)). IsReadied old flushed was hand) (sym (empty_hand was none))
    (readied_empty old reserved flushed flushed was None none first room flush (next_none flushed kept))

pub readied_full : (old reserved flushed : Port) (was : Option (ℕ × Letter)) → is_some was ≡ true → IsAsBefore old reserved → HasRoomForTurn reserved →
    IsAsBefore reserved flushed → IsReadied old flushed was was
readied_full old reserved flushed was some first room flush = record {
  place = flush.place ∙ first.place;
  posted = λ to. flush.posted to ∙ first.posted to;
  handled = λ from. ap (λ (ls : List Letter). take (length ls - length (hand_from was from)) ls) (flush.taken from ∙ first.taken from);
  room = room_kept reserved flushed flush.place flush.room room;
  kept = λ is. absurd (let none : is_some was ≡ false = ap is_some is in cc);
  had = λ is. absurd (let none : is_some was ≡ false = ap is_some is in cc);
}

pub no_letter : (hand was : Option (ℕ × Letter)) → is_some was ≡ false → (x : ℕ × Letter) → was ≡ Some x → hand ≡ Some x
no_letter hand was none x is = absurd (let some = ap is_some is in cc)

-- Letters are posted

pub letters_first : (k to : ℕ) (letter : Letter) (rest : List (ℕ × letters.Letter)) →
    letters_with k ((to, letter) ∷ rest) ≡ only k to letter ++ letters_with k rest
letters_first k to letter rest = by (nat_eq to k) refl
  where
    by : (b : Bool) → nat_eq to k ≡ b → letters_with k ((to, letter) ∷ rest) ≡ only k to letter ++ letters_with k rest
    by true is = rw is refl
    by false is = rw is refl

-- One letter was posted of those that are to post.
pub record IsPostedOn (old new : Port) (ls rest : List (ℕ × letters.Letter)) : Type 0 where
  pub posted : (to : ℕ) → posted_to new to ++ letters_with to rest ≡ posted_to old to ++ letters_with to ls
  pub ways : AllByRecursion (λ p. HasWayTo new p.0) rest
  pub room : (to : ℕ) → HasWayTo new to → length rest ≤ room_to new to

ways_kept : (old new : Port) (ls : List (ℕ × letters.Letter)) → place new ≡ place old → AllByRecursion (λ p. HasWayTo old p.0) ls →
    AllByRecursion (λ p. HasWayTo new p.0) ls
ways_kept old new [] same ways = tt
ways_kept old new (p ∷ ls) same ways = (way_after old new p.0 same ways.0, ways_kept old new ls same ways.1)

room_left : (old new : Port) (to k n : ℕ) (letter : Letter) → HasPosted old new to letter → n + 1 ≤ room_to old k → n ≤ room_to new k
room_left old new to k n letter has fits = by (nat_eq k to) refl
  where
    by : (b : Bool) → nat_eq k to ≡ b → n ≤ room_to new k
    by true is =
        let same = eqb-true k to is in
        let left : n ≤ room_to new to = omega (arith, has.used, subst (λ (i : ℕ). n + 1 ≤ room_to old i) same fits) in
        subst (λ (i : ℕ). n ≤ room_to new i) (sym same) left
    by false is = omega (arith, has.room k (eqb-false k to is))

pub posted_on : (old new : Port) (to : ℕ) (letter : Letter) (ls rest : List (ℕ × letters.Letter)) → HasPosted old new to letter →
    ls ≡ (to, letter) ∷ rest →
    AllByRecursion (λ p. HasWayTo old p.0) ls → ((k : ℕ) → HasWayTo old k → length ls ≤ room_to old k) → IsPostedOn old new ls rest
posted_on old new to letter ls rest has is ways room = record {
  posted = λ k. ap (λ (xs : List Letter). xs ++ letters_with k rest) (has.posted k)
      ∙ append_assoc (posted_to old k) (only k to letter) (letters_with k rest)
      ∙ ap (λ (xs : List letters.Letter). posted_to old k ++ xs) (sym (ap (letters_with k) is ∙ letters_first k to letter rest));
  ways = ways_kept old new rest has.place (subst (AllByRecursion (λ p. HasWayTo old p.0)) is ways).1;
  room = λ k way. room_left old new to k (length rest) letter has (omega (arith, room k (way_before old new k has.place way), ap length is));
}

pub letters_then : (a b c : Log) → HasLetters a b → HasLetters b c → HasLetters a c
letters_then a b c first next = record {
  cpu = next.cpu ∙ first.cpu;
  ends = next.ends ∙ first.ends;
  ticks = next.ticks ∙ first.ticks;
  buffer = next.buffer ∙ first.buffer;
}

pub letters_closed : (old new : Log) → HasLetters old new → IsClosed old → IsClosed new
letters_closed old new h closed = rw (h.buffer, h.ends) closed
