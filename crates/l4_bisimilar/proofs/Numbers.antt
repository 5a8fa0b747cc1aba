-- In similar states the same can happen, similarly.
use Rattle.std.proofs.Common.{◌≡◌, ℕ, Option, Some, None, List, map, refl, ap, sym, ◌∙◌}
use Rattle.std.proofs.lemmas.List.{map-id}
use Rattle.std.proofs.lemmas.Simd.{map-map}
use Rattle.std.specs.Prelude.{nat_lt}
use Rattle.l4_model.specs.Machine.{Machine}
use Rattle.l4_model.specs.World.{Thread}
use Rattle.l4_model.specs.Steps.{Begin, Deliver, Queue, Retarget}
use Rattle.l4_core_model.specs.Letters.{Cancelled, Content, DoneLetter, Dropped, Letter, Nobody, Refusal, RetargetLetter, SendLetter, TimedOut, WithdrawLetter, refusal_step}
use Rattle.l4_core_model.specs.Local.{Local}
use Rattle.l4_core_model.specs.Turns.{advance, turn}
use Rattle.l4_core_model.specs.Laws.{IsCoreRun}
use Rattle.l4_core_model.specs.Runs.{Happened, Action, Handles, IsMachine, Posted, Run, System, Ticks, Turns, happens, letters}
use Rattle.l4_bisimilar.specs.Alike.{IsAlike, contents, unstamped}
use Rattle.l4_bisimilar.proofs.Ways.{Renames, Way, armed_as_is, bare_local, bare_thread, due_as_is, same_map, sent_as_is, timed_as_is}
use Rattle.l4_bisimilar.proofs.Turns.{advance_like, turn_like}
use Rattle.l4_bisimilar.proofs.Mail.{letters_map}
use Rattle.l4_bisimilar.proofs.Systems.{AreEvents, AreRead, each_like, handles_like}
use Rattle.l4_bisimilar.specs.Similar.{AreSimilar, IsSimilar, numberless_content, numberless_letter, numberless_local, numberless_posted, numberless_step, numberless_thread}
use Rattle.l4_bisimilar.proofs.InRuns.{fits}
use Rattle.l4_bisimilar.proofs.Named.{handle_numbered}

-- What letters tell, without numbers
abbrev pub pared_contents : List Letter → List Content
pared_contents = map (λ (letter : Letter). numberless_content letter.content)

-- States whose processors are taken for others, with letters without numbers, are alike where they
-- are read so.

abbrev taken_for : (Local → Local) → System → System
taken_for local g = record { locals = map local g.locals; mail = map numberless_posted g.mail }

mail_is : (from to : ℕ) (mail : List Posted) →
    contents (letters (map numberless_posted mail) from to) ≡ pared_contents (letters mail from to)
mail_is from to mail =
    ap contents (letters_map numberless_letter from to mail)
    ∙ map-map (λ (letter : Letter). letter.content) numberless_letter (letters mail from to)

module _ (local : Local → Local) (g h : System) where
  abbrev Read : Type 0
  Read = AreRead (λ l. unstamped (local l)) numberless_content g h

  pub are_read : IsAlike (taken_for local g) (taken_for local h) → Read
  are_read s = record {
    locals = sym (map-map unstamped local g.locals) ∙ s.locals ∙ map-map unstamped local h.locals;
    mail = λ from to. sym (mail_is from to g.mail) ∙ s.mail from to ∙ mail_is from to h.mail;
  }

  pub are_taken : Read → IsAlike (taken_for local g) (taken_for local h)
  are_taken p = record {
    locals = map-map unstamped local g.locals ∙ p.locals ∙ sym (map-map unstamped local h.locals);
    mail = λ from to. mail_is from to g.mail ∙ p.mail from to ∙ sym (mail_is from to h.mail);
  }

-- Counts of sends are taken for 0.

refuses : (refusal : Refusal) → Renames (λ n. 0) (λ s. numberless_step (refusal_step refusal s))
refuses TimedOut s t e = ap (refusal_step TimedOut) e
refuses Nobody s t e = ap (refusal_step Nobody) e
refuses Cancelled s t e = ap (refusal_step Cancelled) e
refuses Dropped s t e = ap (refusal_step Dropped) e

abbrev by_numbers : Way
by_numbers = record {
  count = λ n. 0;
  time = λ n. n;
  ahead = λ clock e. e;
  step = numberless_step;
  content = numberless_content;
  counted = λ a b e. refl;
  armed = armed_as_is;
  due = due_as_is;
  begins = λ s t e. ap Begin e;
  queues = λ s t e. ap Queue e;
  refuses = refuses;
  delivers = λ receiver shown actual tag words s t e. ap (λ n. Deliver n receiver shown actual tag words) e;
  retargets = λ s t e. ap Retarget e;
  sends = λ receiver message zero_timeout s t e. ap (λ n. SendLetter n receiver message zero_timeout) e;
  ends = λ result s t e. ap (λ n. DoneLetter n result) e;
  withdraws = λ receiver cause s t e. ap (λ n. WithdrawLetter n receiver cause) e;
  owes = λ o p e. ap RetargetLetter e;
}

abbrev pared_local : Local → Local
pared_local l = unstamped (numberless_local l)

reads : (l : Local) → bare_local by_numbers l ≡ pared_local l
reads l = λ j. record (pared_local l) {
  threads = same_map (bare_thread by_numbers) numberless_thread thread l.threads j;
  lists = record l.lists { armed = map-id l.lists.armed j };
}
  where
    thread : (t : Thread) → bare_thread by_numbers t ≡ numberless_thread t
    thread t = λ j. record (numberless_thread t) { phase = timed_as_is t.phase j; send = sent_as_is t.send j }

similar : (o p : Option Happened) → AreEvents by_numbers pared_local o p → AreSimilar o p
similar None None e = tt
similar (Some a) (Some b) e = record {
  cpu = e.cpu;
  steps = e.steps;
  system = are_taken numberless_local a.system b.system e.system;
}
similar None (Some b) e = e
similar (Some a) None e = e

pub happen_similar : (m : Machine) (r s : Run) (e : Action) → IsMachine m → IsCoreRun m r →
    IsCoreRun m s → IsSimilar r.system s.system →
    AreSimilar (happens m r.system e) (happens m s.system e)
happen_similar m r s e machine core other both =
    similar _ _ (by e (are_read numberless_local r.system s.system both))
  where
    by : (e : Action) → AreRead pared_local numberless_content r.system s.system →
        AreEvents by_numbers pared_local (happens m r.system e) (happens m s.system e)
    by (Handles cpu from) p =
        handles_like by_numbers pared_local reads m r.system s.system cpu from p
        λ l n a b at_l at_n first second same like. handle_numbered by_numbers m cpu l n like a b same (λ i j. refl)
        (fits m r cpu from a l machine core at_l first) (fits m s cpu from b n machine other at_n second)
    by (Turns cpu) p =
        each_like by_numbers pared_local reads r.system s.system cpu (turn m cpu) (turn m cpu) p
        λ l n at_l at_n like. turn_like by_numbers m cpu l n like
    by (Ticks cpu clock) p =
        each_like by_numbers pared_local reads r.system s.system cpu (advance m cpu clock) (advance m cpu clock) p
        λ l n at_l at_n like. advance_like by_numbers m cpu clock clock l n like
        (ap (λ c. nat_lt c clock) like.clock) refl refl refl (λ is. like.armed)
