-- What is promised is kept where a deletion is told to one processor more.
use Rattle.l4_refines.proofs.Lists.{all_true, get_other_place}
use Rattle.std.proofs.Common.{◌≡◌, ℕ, ◌+◌, ◌<◌, ◌≤◌, Bool, true, false, cond, Some, None, [], ◌∷◌, ◌++◌, length, refl, ap, sym, ◌∙◌, subst, inl, inr, ◌⊎◌, arith}
use Rattle.std.specs.Prelude.{◌==◌, nat_lt, slice_index_or}
use Rattle.std.proofs.lemmas.Bool.{eqb-true, cases_lt}
use Rattle.l4_model.specs.Machine.{Machine}
use Rattle.l4_model.specs.World.{Deleted}
use Rattle.l4_model.proofs.Chains.{some_is}
use Rattle.l4_core_model.specs.Letters.{Content, GoneLetter}
use Rattle.l4_core_model.specs.Local.{Local, declared, thread}
use Rattle.l4_core_model.specs.Acts.{Work, ◌▷◌, does, posts}
use Rattle.l4_core_model.specs.Turns.{next_untold, has_told}
use Rattle.l4_core_model.specs.Runs.{Posted, posted}
use Rattle.l4_core_model.proofs.Changed.{get-changed, length-changed}
use Rattle.l4_core_model.proofs.Apart.{same_or_apart}
use Rattle.l4_refines.proofs.Relation.Views.{Scene, kept, home, amid}
use Rattle.l4_refines.proofs.Frames.Places.{put_keeps, put_same}
use Rattle.l4_refines.proofs.Frames.Mail.{mail_posted}
use Rattle.l4_refines.proofs.Frames.Going.{put_home}
use Rattle.l4_refines.proofs.Promises.Promised.{AnyOf, MayFollow, InOrder, IsGone, IsArmedUnlessSplit, IsCalm, IsAnswered, IsTold, kept_at, phases, HasHeard, HasAnswer}
use Rattle.l4_refines.proofs.Promises.Letters.{any_append, any_last, order_append}
use Rattle.l4_refines.proofs.Promises.Locals.{here_local}
use Rattle.l4_refines.proofs.Promises.Acts.{StaysPromised}

-- Who is told now was told before, or is the next one.
told_now : (m : Machine) (cpu told to : ℕ) → next_untold m cpu told ≡ Some to → (c : ℕ) → c < to + 1 → (c ≡ cpu → ⊥) → (c < told) ⊎ (c ≡ to)
told_now m cpu told to h c lt away = by (told == cpu) refl h
  where
    which : (b : Bool) → (told == cpu) ≡ b → cond b (told + 1) told ≡ to → (c < told) ⊎ (c ≡ to)
    which true is e = upto (cases_lt c told)
      where
        upto : ((c < told) ⊎ (told ≤ c)) → (c < told) ⊎ (c ≡ to)
        upto (inl below) = inl below
        upto (inr le) = next (cases_lt c (told + 1))
          where
            next : ((c < told + 1) ⊎ (told + 1 ≤ c)) → (c < told) ⊎ (c ≡ to)
            next (inl below) = let here : c ≡ told = omega arith in absurd (away (here ∙ eqb-true told cpu is))
            next (inr above) = inr (omega arith)
    which false is e = upto (cases_lt c told)
      where
        upto : ((c < told) ⊎ (told ≤ c)) → (c < told) ⊎ (c ≡ to)
        upto (inl below) = inl below
        upto (inr le) = inr (omega arith)

    by : (b : Bool) → (told == cpu) ≡ b → cond (nat_lt (cond b (told + 1) told) m.cpus) (Some (cond b (told + 1) told)) None ≡ Some to → (c < told) ⊎ (c ≡ to)
    by b is h = bounded (nat_lt (cond b (told + 1) told) m.cpus) h
      where
        bounded : (d : Bool) → cond d (Some (cond b (told + 1) told)) None ≡ Some to → (c < told) ⊎ (c ≡ to)
        bounded false h = cc
        bounded true h = which b is (some_is _ to h)

-- One processor more is told of a deletion.
pub tells_keeps : (m : Machine) (cpu to i : ℕ) (s : Scene) (x : Work) → cpu < m.cpus → home m i ≡ cpu →
    next_untold m cpu (slice_index_or x.local.told i 0) ≡ Some to → StaysPromised m cpu s x →
    StaysPromised m cpu s (x ▷ does (has_told to i) ▷ posts to (GoneLetter (declared m i).id))
tells_keeps m cpu to i s x processor here untold p = record {
  threads = λ c lt. put_keeps (λ (l : Local). length l.threads ≡ length m.threads) cpu c x.local (has_told to i x.local) s.locals (λ h. h) (p.threads c lt);
  told_ones = λ c lt. put_keeps (λ (l : Local). length l.told ≡ length m.threads) cpu c x.local (has_told to i x.local) s.locals
      (λ h. length-changed (λ n. to + 1) x.local.told i ∙ h) (p.told_ones c lt);
  in_order = subst InOrder (sym mail)
      (order_append (amid cpu s x).mail last (all_true (λ (q : Posted). MayFollow letter q.letter.content) (λ q. tt) (amid cpu s x).mail) p.in_order);
  told = λ j lt. same_or_apart (IsTold m j (kept_at after (home m j) j).told (phases after j) after.mail) i j
      (λ e. subst (λ j. j < length m.threads → IsTold m j (kept_at after (home m j) j).told (phases after j) after.mail) e told_here lt)
      (λ ne. told_other j lt ne);
  calm = λ j lt. put_keeps (λ l. IsCalm (thread l j)) cpu (home m j) x.local (has_told to i x.local) s.locals (λ h. h) (p.calm j lt);
  armed = λ j lt out. put_keeps (λ l. IsArmedUnlessSplit m j (kept l j)) cpu (home m j) x.local (has_told to i x.local) s.locals (λ h. h) (p.armed j lt out);
  answered = λ j lt out. put_keeps (λ l. IsAnswered m j (kept l j) after.mail) cpu (home m j) x.local (has_told to i x.local) s.locals (λ h. h)
      (λ send r has away_to away ending.
      subst (HasAnswer m j r (kept_at (amid cpu s x) (home m j) j)) (sym mail)
      (any_append _ (amid cpu s x).mail last (p.answered j lt out send r has away_to away ending)));
}
  where
    letter : Content
    letter = GoneLetter (declared m i).id

    y : Work
    y = x ▷ does (has_told to i)

    after : Scene
    after = amid cpu s (y ▷ posts to letter)

    last : Posted
    last = posted cpu (to, record { stamp = x.local.stamp; content = letter })

    mail : after.mail ≡ (amid cpu s x).mail ++ last ∷ []
    mail = mail_posted cpu to letter s y

    later : (j c : ℕ) → HasHeard m j c (phases (amid cpu s x) j c) (amid cpu s x).mail → HasHeard m j c (phases after j c) after.mail
    later j c (inl h) = inl (put_keeps (λ l. (thread l j).phase ≡ Deleted) cpu c x.local (has_told to i x.local) s.locals (λ h. h) h)
    later j c (inr h) = inr (subst (AnyOf (IsGone (declared m j).id c)) (sym mail) (any_append _ (amid cpu s x).mail last h))

    told_other : (j : ℕ) → j < length m.threads → (i ≡ j → ⊥) → IsTold m j (kept_at after (home m j) j).told (phases after j) after.mail
    told_other j lt ne c c_lt away below =
        let same = put_same (λ l. (kept l j).told) cpu (home m j) x.local (has_told to i x.local) s.locals
        (get_other_place (λ n. to + 1) x.local.told i j 0 ne) in
        later j c (p.told j lt c c_lt away (subst (λ n. c < n) same below))

    told_here : i < length m.threads → IsTold m i (kept_at after (home m i) i).told (phases after i) after.mail
    told_here lt c c_lt away below = by (told_now m cpu (slice_index_or x.local.told i 0) to untold c (subst (λ n. c < n) now below) (λ e. away (e ∙ sym here)))
      where
        size : length x.local.told ≡ length m.threads
        size = subst (λ (l : Local). length l.told ≡ length m.threads) (here_local cpu s x.local) (p.told_ones cpu processor)

        now : (kept_at after (home m i) i).told ≡ to + 1
        now = ap (λ l. (kept l i).told) (put_home m cpu i s (has_told to i x.local) here) ∙ get-changed (λ n. to + 1) x.local.told i 0 (omega (arith, size))

        before : (kept_at (amid cpu s x) (home m i) i).told ≡ slice_index_or x.local.told i 0
        before = ap (λ l. (kept l i).told) (put_home m cpu i s x.local here)

        by : (c < slice_index_or x.local.told i 0) ⊎ (c ≡ to) → HasHeard m i c (phases after i c) after.mail
        by (inl old) = later i c (p.told i lt c c_lt away (subst (λ n. c < n) (sym before) old))
        by (inr next) = inr (subst (AnyOf (IsGone (declared m i).id c)) (sym mail)
            (any_last (IsGone (declared m i).id c) (amid cpu s x).mail last (refl, sym next)))
