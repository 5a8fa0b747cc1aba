-- What is held is not refused for its time, and what is not refused is held.
use Rattle.std.proofs.Common.{◌≡◌, ℕ, ◌+◌, ◌<◌, Bool, true, false, not, Option, Some, None, List, [], ◌∷◌, ◌++◌, length, get_or, take, refl, ap, ap₂, sym, ◌∙◌}
use Rattle.std.specs.Prelude.{◌&&◌, if◌then◌else◌, is_none, filter_map}
use Rattle.std.specs.List.{cons_option}
use Rattle.std.specs.Option.{option_to_list}
use Rattle.std.proofs.lemmas.Bool.{and_parts}
use Rattle.std.proofs.lemmas.List.{take_more}
use Rattle.std.proofs.lemmas.List.Elements.{filter_map-append}
use Rattle.l4_model.specs.Machine.{Declaration, Machine}
use Rattle.l4_model.specs.World.{Name, Send, World, is_alive, must_wait, receive_now}
use Rattle.l4_model.specs.Conditions.{◌>>=◌, ◌>>◌, Found, Pending, has_passed, is_refusable, is_waiting, is_zero, may_still_accept, receiver_of, undecided}
use Rattle.l4_model.specs.Effects.{refused}
use Rattle.l4_model.specs.Rules.{send_code, TimeOver}
use Rattle.l4_model.specs.Steps.{may_refuse, without_send}
use Rattle.l4_model.proofs.Chains.{bind_then, guard_then}
use Rattle.l4_waits.specs.Held.{IsKept, IsNotRefusable, held, is_held}

none_behind : (b : Bool) → (b && false) ≡ false
none_behind true = refl
none_behind false = refl

may_not : (m : Machine) (send : Send) (r : Option Found) → is_held m send r ≡ true → (is_zero send.period ≡ true) × (is_refusable m send r ≡ false)
may_not m send None is = cc
may_not m send (Some r) is =
    let zero = is_zero send.period in
    let away = is_none (receive_now r.now.phase) in
    let parts = and_parts (zero && away) (may_still_accept m r send.message.shown r.now.phase) is in
    ((and_parts zero away parts.0).0, ap (λ b. is_alive r.now.phase && not b) parts.1 ∙ none_behind (is_alive r.now.phase))

not_timed_out : (passed zero refusable waits owed : Bool) → zero ≡ true → refusable ≡ false → (passed && (if zero then refusable else waits) && owed) ≡ false
not_timed_out true zero refusable waits owed is fits = rw (is, fits) refl
not_timed_out false zero refusable waits owed is fits = refl

pub kept : (m : Machine) (w : World) (s : Name) → held m w s ≡ Some s → IsKept m w s
kept m w s is =
    bind_then (undecided m w s) (λ p. is_held m p.send (receiver_of m w p) >> Some s) s is λ p at rest.
    guard_then (is_held m p.send (receiver_of m w p)) (Some s) s rest λ holds done.
    let found = may_not m p.send (receiver_of m w p) holds in
    ap (λ o. o >>= (λ (p : Pending). may_refuse m w s p TimeOver >> Some (without_send w p (refused (send_code TimeOver))))) at
    ∙ ap (λ b. b >> Some (without_send w p (refused (send_code TimeOver))))
    (not_timed_out (has_passed p.send.period p.send.since p.sender.clock) (is_zero p.send.period) (is_refusable m p.send (receiver_of m w p)) (is_waiting w p)
    (not (must_wait w.owed s.thread p.send.to)) found.0 found.1)

twice : (b : Bool) → b ≡ not (not b)
twice true = refl
twice false = refl

pub not_refusable : (m : Machine) (send : Send) (r : Found) → is_zero send.period ≡ true → is_alive r.now.phase ≡ true → receive_now r.now.phase ≡ None → IsNotRefusable m send r
not_refusable m send r zero alive none =
    let may = may_still_accept m r send.message.shown r.now.phase in
    ap₂ (λ (z n : Bool). z && n && may) zero (ap is_none none) ∙ twice may
    ∙ sym (ap (λ a. not (a && not may)) alive)

one_at_most : (o : Option Name) → cons_option o [] ≡ option_to_list o
one_at_most None = refl
one_at_most (Some s) = refl

-- One more thread is looked at.
pub held_more : (f : Declaration → Option Name) (threads : List Declaration) (xs ys : List Name) (n : ℕ) (d : Declaration) → n < length threads → d ≡ get_or threads n d →
    xs ≡ filter_map f (take n threads) → ys ≡ xs ++ option_to_list (f d) → ys ≡ filter_map f (take (n + 1) threads)
held_more f threads xs ys n d lt at so_far more =
    let next : take (n + 1) threads ≡ take n threads ++ d ∷ [] = take_more threads n d lt ∙ ap (λ y. take n threads ++ y ∷ []) (sym at) in
    more ∙ ap (λ zs. zs ++ option_to_list (f d)) so_far
    ∙ ap (λ zs. filter_map f (take n threads) ++ zs) (sym (one_at_most (f d)))
    ∙ sym (ap (filter_map f) next ∙ filter_map-append f (take n threads) (d ∷ []))
