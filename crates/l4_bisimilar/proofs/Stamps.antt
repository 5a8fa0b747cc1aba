-- States that differ in stamps alone: no event asks for a stamp.
use Rattle.std.proofs.Common.{◌≡◌, ℕ, ◌+◌, Option, Some, None, refl, subst, sym, ap, ◌∙◌}
use Rattle.std.proofs.lemmas.List.{map-id}
use Rattle.std.specs.Prelude.{nat_lt, ◌==◌, ◌&&◌}
use Rattle.std.specs.Option.{option_map}
use Rattle.l4_model.specs.Machine.{Machine}
use Rattle.l4_model.specs.World.{Owed, Thread}
use Rattle.l4_model.specs.Steps.{Begin, Deliver, Queue, Retarget}
use Rattle.l4_core_model.specs.Letters.{Content, DoneLetter, GoneLetter, Letter, OrderDoneLetter, OrderLetter, RetargetLetter, SendLetter, WithdrawLetter, refusal_step}
use Rattle.l4_core_model.specs.Local.{Local}
use Rattle.l4_core_model.specs.Mail.{handle, handled}
use Rattle.l4_core_model.specs.Turns.{advance, opened, turn}
use Rattle.l4_core_model.specs.Runs.{Action, Handles, Happened, System, Ticks, Turns, happens}
use Rattle.l4_bisimilar.specs.Alike.{AreAlike, IsAlike, unstamped}
use Rattle.l4_bisimilar.proofs.Ways.{Way, armed_as_is, bare_local, bare_thread, counted_owed, due_as_is, same_map, sent_as_is, timed_as_is}
use Rattle.l4_bisimilar.proofs.Works.{AreWorks, IsLike, queued_like, thread_like}
use Rattle.l4_bisimilar.proofs.Turns.{advance_like, turn_like}
use Rattle.l4_bisimilar.proofs.Letters.{MeanAlike, handled_like, number_in, with_number}
use Rattle.l4_bisimilar.proofs.Systems.{AreEvents, AreRead, each_like, handles_like}

abbrev by_stamps : Way
by_stamps = record {
  count = λ n. n;
  time = λ n. n;
  ahead = λ clock e. e;
  step = λ s. s;
  content = λ c. c;
  counted = λ a b e. ap (λ n. n + 1) e;
  armed = armed_as_is;
  due = due_as_is;
  begins = λ s t e. ap Begin e;
  queues = λ s t e. ap Queue e;
  refuses = λ refusal s t e. ap (refusal_step refusal) e;
  delivers = λ receiver shown actual tag words s t e. ap (λ n. Deliver n receiver shown actual tag words) e;
  retargets = λ s t e. ap Retarget e;
  sends = λ receiver message zero_timeout s t e. ap (λ n. SendLetter n receiver message zero_timeout) e;
  ends = λ result s t e. ap (λ n. DoneLetter n result) e;
  withdraws = λ receiver cause s t e. ap (λ n. WithdrawLetter n receiver cause) e;
  owes = λ o p e. ap RetargetLetter e;
}

reads : (l : Local) → bare_local by_stamps l ≡ unstamped l
reads l = λ j. record (unstamped l) {
  threads = (same_map (bare_thread by_stamps) (λ t. t) thread l.threads ∙ map-id l.threads) j;
  lists = record l.lists { armed = map-id l.lists.armed j };
  owed = (same_map (option_map (counted_owed (λ n. n))) (λ o. o) owed l.owed ∙ map-id l.owed) j;
}
  where
    thread : (t : Thread) → bare_thread by_stamps t ≡ t
    thread t = λ j. record t { phase = timed_as_is t.phase j; send = sent_as_is t.send j }

    owed : (o : Option Owed) → option_map (counted_owed (λ n. n)) o ≡ o
    owed None = refl
    owed (Some o) = refl

-- A letter is handled alike in both.

module _ (m : Machine) (cpu : ℕ) (l k : Local) (like : IsLike by_stamps l k) where
  means : (c : Content) → (with_number (number_in c) c ≡ c) × MeanAlike m cpu l k (number_in c) c
  means (SendLetter s receiver message zero_timeout) = (refl, tt)
  means (DoneLetter s result) =
      (refl, λ i own. ap (λ (t : Thread). t.context.begun == s.k) (thread_like by_stamps l k i like))
  means (WithdrawLetter s receiver cause) = (
    refl,
    λ i foreign. λ j.
        queued_like by_stamps l k i like j && (thread_like by_stamps l k i like j).context.begun == s.k,
  )
  means (GoneLetter id) = (refl, tt)
  means (OrderLetter caller target what) = (refl, tt)
  means (OrderDoneLetter caller) = (refl, tt)
  means (RetargetLetter o) = (refl, tt)

  handle_like : (a b : Letter) → a.content ≡ b.content → AreWorks by_stamps (handle m cpu l a) (handle m cpu k b)
  handle_like a b e =
      let is = means a.content in
      subst (λ (c : Content).
      AreWorks by_stamps (handled m cpu a.content (opened a.stamp l)) (handled m cpu c (opened b.stamp k)))
      (is.0 ∙ e)
      (handled_like by_stamps m cpu l k like a.stamp b.stamp a.content (number_in a.content) refl is.1)

alike : (o p : Option Happened) → AreEvents by_stamps unstamped o p → AreAlike o p
alike None None e = tt
alike (Some a) (Some b) e = record {
  cpu = e.cpu;
  steps = sym (map-id a.event.steps) ∙ e.steps ∙ map-id b.event.steps;
  system = record { locals = e.system.locals; mail = e.system.mail };
}
alike None (Some b) e = e
alike (Some a) None e = e

pub happen_alike : (m : Machine) (g h : System) (e : Action) → IsAlike g h →
    AreAlike (happens m g e) (happens m h e)
happen_alike m g h e both = alike _ _ (by e (record { locals = both.locals; mail = both.mail }))
  where
    by : (e : Action) → AreRead unstamped (λ c. c) g h → AreEvents by_stamps unstamped (happens m g e) (happens m h e)
    by (Handles cpu from) p =
        handles_like by_stamps unstamped reads m g h cpu from p
        λ l n a b at_l at_n first second same like. handle_like m cpu l n like a b same
    by (Turns cpu) p =
        each_like by_stamps unstamped reads g h cpu (turn m cpu) (turn m cpu) p
        λ l n at_l at_n like. turn_like by_stamps m cpu l n like
    by (Ticks cpu clock) p =
        each_like by_stamps unstamped reads g h cpu (advance m cpu clock) (advance m cpu clock) p
        λ l n at_l at_n like. advance_like by_stamps m cpu clock clock l n like
        (ap (λ c. nat_lt c clock) like.clock) refl refl refl (λ is. like.armed)
