-- What is promised is kept where a local state changes.
use Rattle.std.proofs.Common.{◌≡◌, ℕ, ◌<◌, false, Some, None, List, [], ◌∷◌, filter, length, refl, ap, sym, ◌∙◌, subst, inl, inr, ◌⊎◌, arith}
use Rattle.std.specs.Prelude.{◌==◌}
use Rattle.l4_model.specs.Machine.{Machine}
use Rattle.l4_model.specs.World.{Send, Thread, Deleted}
use Rattle.l4_core_model.specs.Local.{Local, declared, thread, comes_to, changes, relists, armed_for}
use Rattle.l4_core_model.specs.Plain as plain
use Rattle.l4_core_model.specs.Acts.{Work, ◌▷◌, does}
use Rattle.l4_core_model.specs.Runs.{Posted}
use Rattle.l4_model.specs.Words.{Period}
use Rattle.l4_core_model.proofs.Changed.{same_nat, length-changed}
use Rattle.l4_core_model.proofs.Fit.{NotIn}
use Rattle.l4_core_model.proofs.Apart.{same_or_apart}
use Rattle.l4_refines.proofs.Relation.Views.{Kept, Scene, kept, home, put, amid}
use Rattle.l4_refines.proofs.Frames.Locals.{come, comes_here, comes_other, changes_here, changes_other}
use Rattle.l4_refines.proofs.Frames.Places.{put_keeps}
use Rattle.l4_refines.proofs.Frames.Going.{put_home, put_other}
use Rattle.l4_refines.proofs.Promises.Promised.{AnyOf, IsAnswer, IsArmedUnlessSplit, IsCalm, IsLate, IsWished, IsAnswered, kept_at, phases, Promised, HasHeard}
use Rattle.l4_refines.proofs.Promises.Frames.{leaves_one, takes_one}

-- What home keeps of a thread changes, and what was promised of it is still true.
pub record IsSteady (m : Machine) (i : ℕ) (k after : Kept) : Type 0 where
  pub armed : IsArmedUnlessSplit m i k → IsArmedUnlessSplit m i after
  pub ending : (send : Send) → after.thread.send ≡ Some send → IsLate after ⊎ IsWished after.thread →
      (k.thread.send ≡ Some send) × ((IsLate k ⊎ IsWished k.thread) × (k.thread.context.begun ≡ after.thread.context.begun))

pub same_steady : (m : Machine) (i : ℕ) (k after : Kept) → after ≡ k → IsSteady m i k after
same_steady m i k after e = subst (IsSteady m i k) (sym e) (record { armed = λ h. h; ending = λ send has ending. (has, (ending, refl)) })

steady_answered : (m : Machine) (i : ℕ) (k after : Kept) (mail : List Posted) → IsSteady m i k after → IsAnswered m i k mail → IsAnswered m i after mail
steady_answered m i k after mail steady h send r has to away ending =
    let old = steady.ending send has ending in
    subst (λ b. AnyOf (IsAnswer (record { thread = (declared m i).id; k = b }) (home m i) (home m r)) mail) old.1.1 (h send r old.0 to away old.1.0)

-- A change of a processor's state leaves what is promised as it is: of its own threads, but for those left out, what they are armed
-- for and whether their sends are to end, and of the others what it knows to be deleted.
pub record IsHarmless (m : Machine) (cpu : ℕ) (except : List ℕ) (l after : Local) : Type 0 where
  pub threads : length after.threads ≡ length l.threads
  pub told_ones : length after.told ≡ length l.told
  pub told : (i : ℕ) → (kept after i).told ≡ (kept l i).told
  pub calm : (i : ℕ) → i < length l.threads → home m i ≡ cpu → IsCalm (thread l i) → IsCalm (thread after i)
  pub steady : (i : ℕ) → i < length l.threads → home m i ≡ cpu → NotIn i except → IsSteady m i (kept l i) (kept after i)
  pub away : (i : ℕ) → i < length l.threads → (home m i ≡ cpu → ⊥) → (thread l i).phase ≡ Deleted → (thread after i).phase ≡ Deleted

-- The processor's own state, under way
pub here_local : (cpu : ℕ) (s : Scene) (l : Local) → put cpu l s.locals cpu ≡ l
here_local cpu s l = let same = same_nat cpu in rw same refl

pub size_now : (m : Machine) (cpu : ℕ) (except : List ℕ) (s : Scene) (x : Work) → cpu < m.cpus → Promised m except (amid cpu s x) →
    length x.local.threads ≡ length m.threads
size_now m cpu except s x lt p = subst (λ (l : Local). length l.threads ≡ length m.threads) (here_local cpu s x.local) (p.threads cpu lt)

-- A harmless change.
pub local_keeps : (m : Machine) (cpu : ℕ) (except : List ℕ) (s : Scene) (x : Work) (f : Local → Local) → cpu < m.cpus →
    IsHarmless m cpu except x.local (f x.local) → Promised m except (amid cpu s x) → Promised m except (amid cpu s (x ▷ does f))
local_keeps m cpu except s x f processor spared p = record {
  threads = λ c lt. put_keeps (λ (l : Local). length l.threads ≡ length m.threads) cpu c x.local (f x.local) s.locals (λ h. spared.threads ∙ h)
      (p.threads c lt);
  told_ones = λ c lt. put_keeps (λ (l : Local). length l.told ≡ length m.threads) cpu c x.local (f x.local) s.locals (λ h. spared.told_ones ∙ h)
      (p.told_ones c lt);
  in_order = p.in_order;
  told = λ i lt c c_lt away below. by i lt c away (p.told i lt c c_lt away (subst (λ n. c < n) (told_same i) below));
  calm = λ i lt. at_home i (λ k. IsCalm k.thread) (λ here. spared.calm i (within i lt) here) (p.calm i lt);
  armed = λ i lt out. at_home i (IsArmedUnlessSplit m i) (λ here. (spared.steady i (within i lt) here out).armed) (p.armed i lt out);
  answered = λ i lt out. at_home i (λ k. IsAnswered m i k (amid cpu s x).mail)
      (λ here. steady_answered m i (kept x.local i) (kept (f x.local) i) (amid cpu s x).mail (spared.steady i (within i lt) here out)) (p.answered i lt out);
}
  where
    after : Scene
    after = amid cpu s (x ▷ does f)

    within : (i : ℕ) → i < length m.threads → i < length x.local.threads
    within i lt = let size = size_now m cpu except s x processor p in omega arith

    at_home : (i : ℕ) (P : Kept → Type 0) → (home m i ≡ cpu → P (kept x.local i) → P (kept (f x.local) i)) → P (kept_at (amid cpu s x) (home m i) i) →
        P (kept_at after (home m i) i)
    at_home i P g h = same_or_apart (P (kept_at after (home m i) i)) (home m i) cpu
        (λ here. subst P (sym (ap (λ l. kept l i) (put_home m cpu i s (f x.local) here)))
        (g here (subst P (ap (λ l. kept l i) (put_home m cpu i s x.local here)) h)))
        (λ away. subst P (sym (put_other cpu (home m i) i x.local (f x.local) s.locals (λ e. away (sym e)))) h)

    told_same : (i : ℕ) → (kept_at after (home m i) i).told ≡ (kept_at (amid cpu s x) (home m i) i).told
    told_same i = same_or_apart ((kept_at after (home m i) i).told ≡ (kept_at (amid cpu s x) (home m i) i).told) (home m i) cpu
        (λ here. ap (λ l. (kept l i).told) (put_home m cpu i s (f x.local) here) ∙ spared.told i
        ∙ sym (ap (λ l. (kept l i).told) (put_home m cpu i s x.local here)))
        (λ away. ap (λ (k : Kept). k.told) (put_other cpu (home m i) i x.local (f x.local) s.locals (λ e. away (sym e))))

    still : (i c : ℕ) → i < length m.threads → (c ≡ home m i → ⊥) → phases (amid cpu s x) i c ≡ Deleted → phases after i c ≡ Deleted
    still i c lt away h = same_or_apart (phases after i c ≡ Deleted) c cpu
        (λ e. put_keeps (λ l. (thread l i).phase ≡ Deleted) cpu c x.local (f x.local) s.locals (spared.away i (within i lt) (λ here. away (e ∙ sym here))) h)
        (λ ne. ap (λ (k : Kept). k.thread.phase) (put_other cpu c i x.local (f x.local) s.locals (λ e. ne (sym e))) ∙ h)

    by : (i : ℕ) → i < length m.threads → (c : ℕ) → (c ≡ home m i → ⊥) → HasHeard m i c (phases (amid cpu s x) i c) (amid cpu s x).mail →
        HasHeard m i c (phases after i c) (amid cpu s x).mail
    by i lt c away (inl h) = inl (still i c lt away h)
    by i lt c away (inr h) = inr h

-- Lists change that no deadline stands in.
pub relists_keeps : (m : Machine) (cpu : ℕ) (except : List ℕ) (s : Scene) (x : Work) (g : plain.Plain → plain.Plain) → cpu < m.cpus →
    (g x.local.lists).armed ≡ x.local.lists.armed → Promised m except (amid cpu s x) → Promised m except (amid cpu s (x ▷ does (relists g)))
relists_keeps m cpu except s x g processor same p = local_keeps m cpu except s x (relists g) processor (record {
  threads = refl;
  told_ones = refl;
  told = λ i. refl;
  calm = λ i lt here h. h;
  steady = λ i lt here out. record {
    armed = λ h other none. h other (sym (ap (filter (λ (e : ℕ × ℕ). i == e.1)) same) ∙ none);
    ending = λ send has ending. (has, (earlier i ending, refl));
  };
  away = λ i lt away h. h;
}) p
  where
    earlier : (i : ℕ) → IsLate (kept (relists g x.local) i) ⊎ IsWished (thread x.local i) → IsLate (kept x.local i) ⊎ IsWished (thread x.local i)
    earlier i (inl late) = inl (sym (ap (filter (λ (e : ℕ × ℕ). i == e.1)) same) ∙ late.0, late.1)
    earlier i (inr wished) = inr wished

-- A thread changes.

-- An entry elsewhere: its home says all that is promised of it.
pub changes_away : (m : Machine) (cpu j : ℕ) (except : List ℕ) (s : Scene) (x : Work) (f : Thread → Thread) → cpu < m.cpus → (home m j ≡ cpu → ⊥) →
    ((thread x.local j).phase ≡ Deleted → (f (thread x.local j)).phase ≡ Deleted) →
    Promised m except (amid cpu s x) → Promised m except (amid cpu s (x ▷ does (changes j f)))
changes_away m cpu j except s x f processor other gone p = local_keeps m cpu except s x (changes j f) processor (record {
  threads = length-changed f x.local.threads j;
  told_ones = refl;
  told = λ i. refl;
  calm = λ i lt here h. subst IsCalm (sym (ap (λ (k : Kept). k.thread) (changes_other x.local j i f (λ e. other (ap (home m) e ∙ here))))) h;
  steady = λ i lt here out. same_steady m i (kept x.local i) (kept (changes j f x.local) i) (changes_other x.local j i f (λ e. other (ap (home m) e ∙ here)));
  away = λ i lt away h. same_or_apart ((thread (changes j f x.local) i).phase ≡ Deleted) j i
      (λ e. subst (λ i. i < length x.local.threads → (thread x.local i).phase ≡ Deleted → (thread (changes j f x.local) i).phase ≡ Deleted) e
      (λ lt h. ap (λ (k : Kept). k.thread.phase) (changes_here x.local j f lt) ∙ gone h) lt h)
      (λ ne. ap (λ (k : Kept). k.thread.phase) (changes_other x.local j i f ne) ∙ h);
}) p

-- A thread comes to a phase in which its send, if it has one, is not to end.
pub record StartsAfresh (t after : Thread) : Type 0 where
  pub calm : IsCalm t → IsCalm after
  pub send : IsCalm t → (after.send ≡ None) ⊎ ((after.cancel_send ≡ false) × (after.phase ≡ Deleted → ⊥))

none_armed : (period : Period) (clock i : ℕ) → armed_for period clock i [] ≡ [] → period ≡ None
none_armed None clock i h = refl
none_armed (Some n) clock i h = cc

pub come_armed : (m : Machine) (i : ℕ) (f : Thread → Thread) (k : Kept) → IsArmedUnlessSplit m i (come i f k)
come_armed m i f k other none = none_armed _ k.clock i none

come_not_late : {P : Type 0} (i : ℕ) (f : Thread → Thread) (k : Kept) → IsLate (come i f k) → P
come_not_late i f k late = absurd (late.1 (none_armed _ k.clock i late.0))

come_answered : (m : Machine) (i : ℕ) (f : Thread → Thread) (k : Kept) (mail : List Posted) →
    (((f k.thread).send ≡ None) ⊎ (((f k.thread).cancel_send ≡ false) × ((f k.thread).phase ≡ Deleted → ⊥))) → IsAnswered m i (come i f k) mail
come_answered m i f k mail (inl none) send r has to away ending = let no_send = sym none ∙ has in cc
come_answered m i f k mail (inr quiet) send r has to away (inl late) = come_not_late i f k late
come_answered m i f k mail (inr quiet) send r has to away (inr (inl wish)) = let both = sym (quiet.0) ∙ wish in cc
come_answered m i f k mail (inr quiet) send r has to away (inr (inr gone)) = absurd (quiet.1 gone)

-- It is left out, and nothing is said of its send.

one_harmless : (m : Machine) (cpu j : ℕ) (except : List ℕ) (l after : Local) → home m j ≡ cpu → length after.threads ≡ length l.threads →
    length after.told ≡ length l.told → ((i : ℕ) → (kept after i).told ≡ (kept l i).told) → ((i : ℕ) → (j ≡ i → ⊥) → kept after i ≡ kept l i) →
    (j < length l.threads → IsCalm (thread l j) → IsCalm (thread after j)) → IsHarmless m cpu (j ∷ except) l after
one_harmless m cpu j except l after here threads told_ones told other calm = record {
  threads = threads;
  told_ones = told_ones;
  told = told;
  calm = λ i lt home_i h. same_or_apart (IsCalm (thread after i)) j i
      (λ e. subst (λ i. i < length l.threads → IsCalm (thread l i) → IsCalm (thread after i)) e calm lt h)
      (λ ne. subst IsCalm (sym (ap (λ (k : Kept). k.thread) (other i ne))) h);
  steady = λ i lt home_i out. same_steady m i (kept l i) (kept after i) (other i (λ e. out.0 (sym e)));
  away = λ i lt away h. ap (λ (k : Kept). k.thread.phase) (other i (λ e. away (sym (ap (home m) e) ∙ here))) ∙ h;
}

pub comes_harmless : (m : Machine) (cpu j : ℕ) (except : List ℕ) (l : Local) (f : Thread → Thread) → home m j ≡ cpu →
    (IsCalm (thread l j) → IsCalm (f (thread l j))) →
    IsHarmless m cpu (j ∷ except) l (comes_to j f l)
comes_harmless m cpu j except l f here calm =
    one_harmless m cpu j except l (comes_to j f l) here (length-changed f l.threads j) refl (λ i. refl) (λ i ne. comes_other l j i f ne)
    (λ lt h. subst IsCalm (sym (ap (λ (k : Kept). k.thread) (comes_here l j f lt))) (calm h))

pub changes_harmless : (m : Machine) (cpu j : ℕ) (except : List ℕ) (l : Local) (f : Thread → Thread) → home m j ≡ cpu →
    (IsCalm (thread l j) → IsCalm (f (thread l j))) →
    IsHarmless m cpu (j ∷ except) l (changes j f l)
changes_harmless m cpu j except l f here calm =
    one_harmless m cpu j except l (changes j f l) here (length-changed f l.threads j) refl (λ i. refl) (λ i ne. changes_other l j i f ne)
    (λ lt h. subst IsCalm (sym (ap (λ (k : Kept). k.thread) (changes_here l j f lt))) (calm h))

-- It is taken in again where what was promised of it is still true.
pub takes_harmless : (m : Machine) (cpu j : ℕ) (l after : Local) → IsHarmless m cpu (j ∷ []) l after →
    (j < length l.threads → IsSteady m j (kept l j) (kept after j)) →
    IsHarmless m cpu [] l after
takes_harmless m cpu j l after harmless steady = record {
  threads = harmless.threads;
  told_ones = harmless.told_ones;
  told = harmless.told;
  calm = harmless.calm;
  steady = λ i lt home_i out. same_or_apart (IsSteady m i (kept l i) (kept after i)) j i
      (λ e. subst (λ i. i < length l.threads → IsSteady m i (kept l i) (kept after i)) e steady lt)
      (λ ne. harmless.steady i lt home_i ((λ e. ne (sym e)), tt));
  away = harmless.away;
}

-- A thread of this processor comes to a phase that starts afresh.
pub comes_keeps : (m : Machine) (cpu j : ℕ) (except : List ℕ) (s : Scene) (x : Work) (f : Thread → Thread) → cpu < m.cpus → home m j ≡ cpu →
    StartsAfresh (thread x.local j) (f (thread x.local j)) →
    Promised m (j ∷ except) (amid cpu s x) → Promised m except (amid cpu s (x ▷ does (comes_to j f)))
comes_keeps m cpu j except s x f processor here settles p =
    let size : length x.local.threads ≡ length m.threads = size_now m cpu (j ∷ except) s x processor p in
    let now = local_keeps m cpu (j ∷ except) s x (comes_to j f) processor (comes_harmless m cpu j except x.local f here settles.calm) p in
    let is : j < length m.threads → kept_at (amid cpu s (x ▷ does (comes_to j f))) (home m j) j ≡ come j f (kept x.local j) =
    λ lt. ap (λ l. kept l j) (put_home m cpu j s (comes_to j f x.local) here) ∙ comes_here x.local j f (omega arith) in
    let calm : j < length m.threads → IsCalm (thread x.local j) = λ lt. subst IsCalm (ap (λ l. thread l j) (put_home m cpu j s x.local here)) (p.calm j lt) in
    takes_one m j except (amid cpu s (x ▷ does (comes_to j f))) now
    (λ lt. subst (IsArmedUnlessSplit m j) (sym (is lt)) (come_armed m j f (kept x.local j)))
    (λ lt. subst (λ k. IsAnswered m j k (amid cpu s x).mail) (sym (is lt)) (come_answered m j f (kept x.local j) (amid cpu s x).mail (settles.send (calm lt))))

-- The same from a state in which nothing is amiss with it.
pub comes_on : (m : Machine) (cpu j : ℕ) (s : Scene) (x : Work) (f : Thread → Thread) → cpu < m.cpus → home m j ≡ cpu →
    StartsAfresh (thread x.local j) (f (thread x.local j)) →
    Promised m [] (amid cpu s x) → Promised m [] (amid cpu s (x ▷ does (comes_to j f)))
comes_on m cpu j s x f processor here settles p = comes_keeps m cpu j [] s x f processor here settles (leaves_one m j [] (amid cpu s x) p)
