-- What is promised is kept where a thread turns to another partner.
use Rattle.std.proofs.Common.{◌≡◌, ℕ, ◌<◌, Option, Some, None, [], ◌∷◌, length, refl, ap, sym, ◌∙◌, subst, inl, inr, ◌⊎◌, arith}
use Rattle.std.specs.Option.{option_map}
use Rattle.l4_model.specs.Options.{if_some}
use Rattle.l4_model.specs.Words.{is_id_of}
use Rattle.l4_model.specs.Machine.{Machine}
use Rattle.l4_model.specs.World.{Thread, Send, Receive, Owed, Phase, Ready, Sending, Receiving, Ordering, Ended, Deleted}
use Rattle.l4_model.specs.Effects.{turned_receive, turned_send, turns_in, turns}
use Rattle.l4_model.specs.Steps.{Retarget}
use Rattle.l4_model.proofs.Chains.{cond_both}
use Rattle.l4_core_model.specs.Local.{thread, changes, armed_period, destination_place, declared}
use Rattle.l4_core_model.specs.Acts.{Work, ◌▷◌, tells, does, retargets}
use Rattle.l4_core_model.proofs.Apart.{same_or_apart}
use Rattle.l4_refines.proofs.Relation.Views.{Kept, Scene, kept, home, amid}
use Rattle.l4_refines.proofs.Frames.Locals.{changes_here}
use Rattle.l4_refines.proofs.Frames.Going.{put_home}
use Rattle.l4_refines.proofs.Promises.Promised.{IsArmedUnlessSplit, IsSplitSend, IsCalm, IsLate, IsWished, IsAnswered, AnyOf, IsAnswer, kept_at}
use Rattle.l4_refines.proofs.Promises.Frames.{leaves_one, takes_one}
use Rattle.l4_refines.proofs.Promises.Locals.{size_now, local_keeps, changes_away, changes_harmless}
use Rattle.l4_refines.proofs.Promises.Acts.{StaysPromised}
use Rattle.l4_refines.proofs.Retargets.Turned.{turned_kept, turned_begun, turns_deleted}

-- Its period, its wish and whether it is deleted are as before, and so is where its send goes.

same_period : (o : Owed) (receive : Receive) → (turned_receive o receive).period ≡ receive.period
same_period o receive = cond_both (λ (r : Receive). r.period) receive.period (is_id_of receive.from o.old_partner) _ receive refl refl

turned_period : (o : Owed) (t : Thread) → armed_period (turns o t).phase (turns o t).send ≡ armed_period t.phase t.send
turned_period o t = by t.phase refl
  where
    sending : (send : Option Send) → armed_period Sending (option_map (turned_send o) send) ≡ armed_period Sending send
    sending None = refl
    sending (Some send) = refl

    by : (p : Phase) → t.phase ≡ p → armed_period (turns_in p o t).phase (turns_in p o t).send ≡ armed_period t.phase t.send
    by Ready is = refl
    by Sending is = ap (λ p. armed_period p (option_map (turned_send o) t.send)) is ∙ sending t.send ∙ ap (λ p. armed_period p t.send) (sym is)
    by (Receiving receive since) is = same_period o receive ∙ ap (λ p. armed_period p t.send) (sym is)
    by Ordering is = refl
    by Ended is = refl
    by Deleted is = refl

turned_wish : (o : Owed) (t : Thread) → (turns o t).cancel_send ≡ t.cancel_send
turned_wish o t = by t.phase
  where
    by : (p : Phase) → (turns_in p o t).cancel_send ≡ t.cancel_send
    by Ready = refl
    by Sending = refl
    by (Receiving receive since) = refl
    by Ordering = refl
    by Ended = refl
    by Deleted = refl

-- It is in a phase of its kind only where it was.
phase_back : (o : Owed) (t : Thread) (p : Phase) → (p ≡ Sending) ⊎ (p ≡ Deleted) → (turns o t).phase ≡ p → t.phase ≡ p
phase_back o t p kind h = by t.phase refl h
  where
    receiving : {P : Type 0} (receive : Receive) (since : ℕ) → (p ≡ Sending) ⊎ (p ≡ Deleted) → Receiving receive since ≡ p → P
    receiving receive since (inl is) e = let no = e ∙ is in cc
    receiving receive since (inr is) e = let no = e ∙ is in cc

    by : (q : Phase) → t.phase ≡ q → (turns_in q o t).phase ≡ p → t.phase ≡ p
    by Ready is h = h
    by Sending is h = h
    by (Receiving receive since) is h = receiving (turned_receive o receive) since kind h
    by Ordering is h = h
    by Ended is h = h
    by Deleted is h = h

turned_calm : (o : Owed) (t : Thread) → IsCalm t → IsCalm (turns o t)
turned_calm o t calm = λ unsent living. turned_wish o t ∙ calm (λ is. unsent (forth Sending (inl refl) is)) (λ is. living (forth Deleted (inr refl) is))
  where
    forth : (p : Phase) → (p ≡ Sending) ⊎ (p ≡ Deleted) → t.phase ≡ p → (turns o t).phase ≡ p
    forth p (inl is) h = let sending : t.phase ≡ Sending = h ∙ is in ap (λ q. (turns_in q o t).phase) sending ∙ h
    forth p (inr is) h = let gone : t.phase ≡ Deleted = h ∙ is in ap (λ q. (turns_in q o t).phase) gone ∙ h

-- A send that it has is the one that it had, but for its receive phase.
record IsTurnedFrom (o : Owed) (t : Thread) (send : Send) : Type 0 where
  pub old : Send
  pub has : t.send ≡ Some old
  pub to : old.to ≡ send.to

turned_from : (o : Owed) (t : Thread) (send : Send) → (turns o t).send ≡ Some send → IsTurnedFrom o t send
turned_from o t send h = by t.phase h
  where
    same : t.send ≡ Some send → IsTurnedFrom o t send
    same has = record { old = send; has = has; to = refl }

    mapped : (s : Option Send) → t.send ≡ s → option_map (turned_send o) s ≡ Some send → IsTurnedFrom o t send
    mapped None is e = cc
    mapped (Some old) is e = let one : turned_send o old ≡ send = cc in record { old = old; has = is; to = ap (λ (s : Send). s.to) one }

    by : (p : Phase) → (turns_in p o t).send ≡ Some send → IsTurnedFrom o t send
    by Ready h = same h
    by Sending h = mapped t.send refl h
    by (Receiving receive since) h = same h
    by Ordering h = same h
    by Ended h = same h
    by Deleted h = same h

split_forth : (m : Machine) (j : ℕ) (o : Owed) (t : Thread) → IsSplitSend m j t.send → IsSplitSend m j (turns o t).send
split_forth m j o t h = by t.phase
  where
    mapped : (s : Option Send) → IsSplitSend m j s → IsSplitSend m j (option_map (turned_send o) s)
    mapped None h = absurd h
    mapped (Some send) h = h

    by : (p : Phase) → IsSplitSend m j (turns_in p o t).send
    by Ready = h
    by Sending = mapped t.send h
    by (Receiving receive since) = h
    by Ordering = h
    by Ended = h
    by Deleted = h

turned_armed : (m : Machine) (j : ℕ) (o : Owed) (k : Kept) → IsArmedUnlessSplit m j k → IsArmedUnlessSplit m j (turned_kept o k)
turned_armed m j o k h = λ unsplit none. turned_period o k.thread ∙ h (λ split. unsplit (split_forth m j o k.thread split)) none

ending_back : (o : Owed) (k : Kept) → IsLate (turned_kept o k) ⊎ IsWished (turns o k.thread) → IsLate k ⊎ IsWished k.thread
ending_back o k (inl late) = inl (late.0, λ none. late.1 (turned_period o k.thread ∙ none))
ending_back o k (inr (inl wish)) = inr (inl (sym (turned_wish o k.thread) ∙ wish))
ending_back o k (inr (inr gone)) = inr (inr (phase_back o k.thread Deleted (inr refl) gone))

turned_answered : (m : Machine) (j : ℕ) (o : Owed) (k : Kept) (mail : _) → IsAnswered m j k mail → IsAnswered m j (turned_kept o k) mail
turned_answered m j o k mail h send r has to away ending =
    let from = turned_from o k.thread send has in
    subst (λ b. AnyOf (IsAnswer (record { thread = (declared m j).id; k = b }) (home m j) (home m r)) mail) (sym (ap (λ c. c.begun) (turned_begun o k.thread)))
    (h from.old r from.has (ap (destination_place m) from.to ∙ to) away (ending_back o k ending))

-- The originator turns.
pub retargets_keeps : (m : Machine) (cpu : ℕ) (o : Owed) (j : ℕ) (s : Scene) (x : Work) → cpu < m.cpus → StaysPromised m cpu s x →
    StaysPromised m cpu s (retargets o j x)
retargets_keeps m cpu o j s x processor p = same_or_apart (StaysPromised m cpu s (retargets o j x)) (home m j) cpu here
    (λ away. changes_away m cpu j [] s (x ▷ tells (Retarget o.send)) (turns o) processor away
    (λ gone. ap (λ (t : Thread). t.phase) (turns_deleted o (thread x.local j) gone) ∙ gone) p)
  where
    y : Work
    y = x ▷ tells (Retarget o.send)

    here : home m j ≡ cpu → StaysPromised m cpu s (x ▷ tells (Retarget o.send) ▷ does (changes j (turns o)))
    here at =
        let size : length x.local.threads ≡ length m.threads = size_now m cpu [] s y processor p in
        let now = local_keeps m cpu (j ∷ []) s y (changes j (turns o)) processor (changes_harmless m cpu j [] y.local (turns o) at (turned_calm o (thread y.local j)))
        (leaves_one m j [] (amid cpu s y) p) in
        let is : j < length m.threads → kept_at (amid cpu s (y ▷ does (changes j (turns o)))) (home m j) j ≡ turned_kept o (kept y.local j) =
        λ lt. ap (λ l. kept l j) (put_home m cpu j s (changes j (turns o) y.local) at) ∙ changes_here y.local j (turns o) (omega arith) in
        let was : kept_at (amid cpu s y) (home m j) j ≡ kept y.local j = ap (λ l. kept l j) (put_home m cpu j s y.local at) in
        takes_one m j [] (amid cpu s (y ▷ does (changes j (turns o)))) now
        (λ lt. subst (IsArmedUnlessSplit m j) (sym (is lt)) (turned_armed m j o (kept y.local j) (subst (IsArmedUnlessSplit m j) was (p.armed j lt tt))))
        (λ lt. subst (λ k. IsAnswered m j k (amid cpu s y).mail) (sym (is lt))
        (turned_answered m j o (kept y.local j) (amid cpu s y).mail (subst (λ k. IsAnswered m j k (amid cpu s y).mail) was (p.answered j lt tt))))

pub retargets_where : (m : Machine) (cpu : ℕ) (o : Owed) (place : Option ℕ) (s : Scene) (x : Work) → cpu < m.cpus → StaysPromised m cpu s x →
    StaysPromised m cpu s (x ▷ if_some (retargets o) place)
retargets_where m cpu o None s x processor p = p
retargets_where m cpu o (Some j) s x processor p = retargets_keeps m cpu o j s x processor p
