-- The clock of a processor goes on.
use Rattle.l4_model.proofs.Clocks.{passed_later}
use Rattle.l4_core_model.proofs.Fit.{send_later, phase_later}
use Rattle.l4_core_model.proofs.Lists.{all-map}
use Rattle.l4_core_model.proofs.Apart.{same_or_apart}
use Rattle.std.proofs.Common.{◌≡◌, ℕ, ◌<◌, ◌≤◌, ◌^◌, Bool, true, false, cond, Option, Some, None, [], length, refl, ap, sym, ◌∙◌, subst, arith}
use Rattle.std.specs.Prelude.{◌==◌, nat_lt, slice_get, slice_set, slice_index_or, IfSome}
use Rattle.std.proofs.lemmas.List.{length-set, get_or-set_same, get_or-set_other}
use Rattle.std.proofs.lemmas.Bool.{ltb-true}
use Rattle.std.proofs.lemmas.Option.{slice_get-get_or}
use Rattle.l4_model.specs.Machine.{Machine}
use Rattle.l4_model.specs.World.{Thread, World, Send}
use Rattle.l4_model.specs.Steps.{Tick, next}
use Rattle.l4_core_model.specs.Letters.{Content, SendLetter, DoneLetter, WithdrawLetter, GoneLetter, OrderLetter, OrderDoneLetter, RetargetLetter, Cause, ByTimeout, ByCancel, ByDeletion}
use Rattle.l4_core_model.specs.Local.{Local}
use Rattle.l4_core_model.specs.Acts.{Work, ◌▷◌, tells, does}
use Rattle.l4_core_model.specs.Turns.{clock_is}
use Rattle.l4_core_model.specs.Runs.{Posted}
use Rattle.l4_core_model.proofs.Changed.{blocks}
use Rattle.l4_refines.proofs.Lists.{other_is}
use Rattle.l4_refines.proofs.Relation.Views.{Scene, Kept, View, kept, view, home, put, amid, notices, locators}
use Rattle.l4_refines.proofs.Relation.Rows.{IsCause, IsNotice, IsNoticeOf, Matches, IsNoticeAt}
use Rattle.l4_refines.proofs.Relation.Agreement.{learned_later}
use Rattle.l4_refines.proofs.Relation.Whereabouts.{quiet_together}
use Rattle.l4_refines.proofs.Relation.Owing.{Owing}
use Rattle.l4_refines.proofs.Relation.Relates.{IsSized}
use Rattle.l4_refines.proofs.Frames.Places.{put_keeps, put_same}
use Rattle.l4_refines.proofs.Frames.Lists.{put_here}
use Rattle.l4_refines.proofs.Frames.Moves.{at_home}
use Rattle.l4_refines.proofs.Frames.Going.{Goes, one_more_told}

-- What is said of a place stays true.

cause_later : (cause : Cause) (now later : ℕ) (t : Thread) (o : Option Send) → now ≤ later → IfSome o (IsCause cause now t) → IfSome o (IsCause cause later t)
cause_later cause now later t None le h = tt
cause_later ByTimeout now later t (Some send) le h = (passed_later send.period send.since now later le h.0, h.1)
cause_later ByCancel now later t (Some send) le h = h
cause_later ByDeletion now later t (Some send) le h = h

abbrev pub with_clocks : (ℕ → ℕ) → View → View
with_clocks clocks v = record v { kept = λ cpu. record (v.kept cpu) { clock = clocks cpu } }

notice_later : (m : Machine) (i : ℕ) (k : Kept) (clock : ℕ) (p : Posted) (c : Content) → k.clock ≤ clock → IsNoticeOf m i k p c →
    IsNoticeAt m i clock k.thread p c
notice_later m i k clock p (SendLetter s receiver message zero_timeout) le h = h
notice_later m i k clock p (DoneLetter s result) le h = h
notice_later m i k clock p (WithdrawLetter s receiver cause) le h = record {
  r = h.r;
  place = h.place;
  split = h.split;
  to = h.to;
  number = h.number;
  true_cause = λ e. cause_later cause k.clock clock k.thread k.thread.send le (h.true_cause e);
}
notice_later m i k clock p (GoneLetter id) le h = h
notice_later m i k clock p (OrderLetter caller target what) le h = h
notice_later m i k clock p (OrderDoneLetter caller) le h = h
notice_later m i k clock p (RetargetLetter o) le h = tt

matches_later : (m : Machine) (i : ℕ) (clocks : ℕ → ℕ) (v : View) → (at_home m i v).clock ≤ clocks (home m i) → Matches m i v →
    Matches m i (with_clocks clocks v)
matches_later m i clocks v le h =
    let k : Kept = at_home m i v in
    let here = h.known.kept.at_home in
    record {
      known = record {
        agrees = learned_later (locators v.mail) k.clock (clocks (home m i)) v.world k.thread le (quiet_together m i v h.known)
            h.known.agrees;
        row = h.known.row;
        kept = record {
          at_home = record {
            good = record {
              suits = here.good.suits;
              sends = send_later k.clock (clocks (home m i)) k.thread.send le here.good.sends;
              receives = phase_later k.clock (clocks (home m i)) k.thread.phase le here.good.receives;
            };
            armed = here.armed;
            owes = here.owes;
          };
          elsewhere = h.known.kept.elsewhere;
          notices = all-map (IsNotice m i k) (λ p. IsNoticeAt m i (clocks (home m i)) k.thread p p.letter.content)
              (λ p n. notice_later m i k (clocks (home m i)) p p.letter.content le n) (notices v.mail) h.known.kept.notices;
        };
      };
      ready = h.ready;
    }

-- A tick

tick_possible : (m : Machine) (w : World) (cpu to now : ℕ) → slice_get w.clocks cpu ≡ Some now → nat_lt now to ≡ true → nat_lt to (2 ^ 62) ≡ true →
    next m w (Tick cpu to) ≡ Some (record w { clocks = slice_set w.clocks cpu to })
tick_possible m w cpu to now at above below = rw (at, above, below) refl

-- A tick.
pub tick_goes : (m : Machine) (cpu to : ℕ) (s : Scene) (w : World) (x : Work) → cpu < m.cpus → Goes m cpu s w [] x → nat_lt x.local.clock to ≡ true →
    nat_lt to (2 ^ 62) ≡ true → Goes m cpu s w [] (x ▷ tells (Tick cpu to) ▷ does (clock_is to))
tick_goes m cpu to s w x processor e above below =
    let now = e.now in
    let rel = e.relates in
    let y : Work = x ▷ does (clock_is to) in
    let v : World = record now { clocks = slice_set now.clocks cpu to } in
    let in_world : cpu < length now.clocks = omega (arith, rel.sized_world.clocks) in
    let clock : slice_index_or now.clocks cpu 0 ≡ x.local.clock =
    rel.clocks cpu processor ∙ ap (λ (l : Local). l.clock) (put_here cpu cpu x.local s.locals refl) in
    let at : slice_get now.clocks cpu ≡ Some x.local.clock = slice_get-get_or now.clocks cpu 0 in_world ∙ ap Some clock in
    let lt = ltb-true x.local.clock to above in
    let clocks : ℕ → ℕ = λ c. (put cpu y.local s.locals c).clock in
    record {
      starts = e.starts;
      now = v;
      reaches = one_more_told m w now v x.steps (Tick cpu to) e.reaches (tick_possible m now cpu to x.local.clock at above below);
      relates = record {
        sized = λ c c_lt. put_keeps (IsSized m) cpu c x.local y.local s.locals
            (λ z. z) (rel.sized c c_lt);
        sized_world = record {
          threads = rel.sized_world.threads;
          lists = rel.sized_world.lists;
          clocks = length-set now.clocks cpu to ∙ rel.sized_world.clocks;
        };
        clocks = λ c c_lt. same_or_apart (slice_index_or v.clocks c 0 ≡ (put cpu y.local s.locals c).clock) cpu c
            (λ same. subst (λ c. slice_index_or v.clocks c 0 ≡ (put cpu y.local s.locals c).clock) same
            (get_or-set_same now.clocks cpu to 0 in_world ∙ sym (ap (λ (l : Local). l.clock) (put_here cpu cpu y.local s.locals refl))))
            (λ ne. get_or-set_other now.clocks cpu c to 0 (λ h. ne (sym h)) ∙ rel.clocks c c_lt ∙ others c ne);
        lists = λ q q_lt. rel.lists q q_lt
            ∙ ap (λ ess. blocks (slice_index_or ess q [])) (sym (put_same (λ l. l.lists.waiting) cpu (home m q) x.local y.local s.locals refl));
        owing = subst (λ owed. Owing m owed (amid cpu s x).mail now.owed)
            (λ d c. sym (put_same (λ l. l.owed) cpu c x.local y.local s.locals refl) d) rel.owing;
        places = λ j j_lt out. subst (Matches m j) (sym (seen j))
            (matches_later m j clocks (view m (amid cpu s x) now j) (no_sooner (home m j) j lt) (rel.places j j_lt out));
      };
    }
  where
    others : (c : ℕ) → (cpu ≡ c → ⊥) → (put cpu x.local s.locals c).clock ≡ (put cpu (clock_is to x.local) s.locals c).clock
    others c ne = let apart = other_is cpu c ne in rw apart refl

    seen_at : (j c : ℕ) (b : Bool) →
        kept (cond b (clock_is to x.local) (s.locals c)) j ≡ record
        (kept (cond b x.local (s.locals c)) j) { clock = (cond b (clock_is to x.local) (s.locals c)).clock }
    seen_at j c true = refl
    seen_at j c false = refl

    seen : (j : ℕ) → view m (amid cpu s (x ▷ does (clock_is to))) (record e.now { clocks = slice_set e.now.clocks cpu to }) j ≡ with_clocks
        (λ c. (put cpu (clock_is to x.local) s.locals c).clock) (view m (amid cpu s x) e.now j)
    seen j = λ d. record (view m (amid cpu s x) e.now j) { kept = λ c. seen_at j c (cpu == c) d }

    no_sooner : (c j : ℕ) → x.local.clock < to → (kept (put cpu x.local s.locals c) j).clock ≤ (put cpu (clock_is to x.local) s.locals c).clock
    no_sooner c j lt = by (cpu == c)
      where
        by : (b : Bool) → (cond b x.local (s.locals c)).clock ≤ (cond b (clock_is to x.local) (s.locals c)).clock
        by true = omega arith
        by false = omega arith
