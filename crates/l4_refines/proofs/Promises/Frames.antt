-- What is promised is kept by each piece of an event.
use Rattle.std.proofs.Common.{ℕ, ◌<◌, List, ◌∷◌, length, sym, subst, inl, inr}
use Rattle.std.specs.List.{AllByRecursion}
use Rattle.l4_model.specs.Machine.{Machine}
use Rattle.l4_core_model.specs.Letters.{Content}
use Rattle.l4_core_model.specs.Local.{declared}
use Rattle.l4_core_model.specs.Acts.{Work, ◌▷◌, posts}
use Rattle.l4_core_model.specs.Runs.{Posted, posted}
use Rattle.l4_core_model.proofs.Apart.{same_or_apart}
use Rattle.l4_refines.proofs.Relation.Views.{Scene, home, amid}
use Rattle.l4_refines.proofs.Frames.Mail.{mail_posted}
use Rattle.l4_refines.proofs.Promises.Promised.{AnyOf, MayFollow, InOrder, IsGone, IsArmedUnlessSplit, IsAnswered, kept_at, phases, Promised, HasHeard, HasAnswer}
use Rattle.l4_refines.proofs.Promises.Letters.{any_append, order_append}

-- Leaving out, and taking in again

pub leaves_one : (m : Machine) (i : ℕ) (except : List ℕ) (s : Scene) → Promised m except s → Promised m (i ∷ except) s
leaves_one m i except s p = record {
  threads = p.threads;
  told_ones = p.told_ones;
  in_order = p.in_order;
  told = p.told;
  calm = p.calm;
  armed = λ j lt out. p.armed j lt out.1;
  answered = λ j lt out. p.answered j lt out.1;
}

pub takes_one : (m : Machine) (i : ℕ) (except : List ℕ) (s : Scene) → Promised m (i ∷ except) s →
    (i < length m.threads → IsArmedUnlessSplit m i (kept_at s (home m i) i)) → (i < length m.threads → IsAnswered m i (kept_at s (home m i) i) s.mail) →
    Promised m except s
takes_one m i except s p armed answered = record {
  threads = p.threads;
  told_ones = p.told_ones;
  in_order = p.in_order;
  told = p.told;
  calm = p.calm;
  armed = λ j lt out. same_or_apart (IsArmedUnlessSplit m j (kept_at s (home m j) j)) i j
      (λ e. subst (λ j. j < length m.threads → IsArmedUnlessSplit m j (kept_at s (home m j) j)) e armed lt) (λ ne. p.armed j lt ((λ e. ne (sym e)), out));
  answered = λ j lt out. same_or_apart (IsAnswered m j (kept_at s (home m j) j) s.mail) i j
      (λ e. subst (λ j. j < length m.threads → IsAnswered m j (kept_at s (home m j) j) s.mail) e answered lt) (λ ne. p.answered j lt ((λ e. ne (sym e)), out));
}

-- A letter is posted.

pub posts_keeps : (m : Machine) (cpu to : ℕ) (content : Content) (except : List ℕ) (s : Scene) (x : Work) →
    AllByRecursion (λ (q : Posted). MayFollow content q.letter.content) (amid cpu s x).mail →
    Promised m except (amid cpu s x) → Promised m except (amid cpu s (x ▷ posts to content))
posts_keeps m cpu to content except s x may p =
    let mail = mail_posted cpu to content s x in
    let last : Posted = posted cpu (to, record { stamp = x.local.stamp; content = content }) in
    record {
      threads = p.threads;
      told_ones = p.told_ones;
      in_order = subst InOrder (sym mail) (order_append (amid cpu s x).mail last may p.in_order);
      told = λ i lt c c_lt away below. by i c (p.told i lt c c_lt away below);
      calm = p.calm;
      armed = p.armed;
      answered = λ i lt out send r has to away ending.
          subst (HasAnswer m i r (kept_at (amid cpu s x) (home m i) i)) (sym mail)
          (any_append _ (amid cpu s x).mail last (p.answered i lt out send r has to away ending));
    }
  where
    by : (i c : ℕ) → HasHeard m i c (phases (amid cpu s x) i c) (amid cpu s x).mail →
        HasHeard m i c (phases (amid cpu s x) i c) (amid cpu s (x ▷ posts to content)).mail
    by i c (inl h) = inl h
    by i c (inr h) = inr (subst (AnyOf (IsGone (declared m i).id c)) (sym (mail_posted cpu to content s x)) (any_append _ (amid cpu s x).mail _ h))
