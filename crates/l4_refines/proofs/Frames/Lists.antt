-- A send that enters or leaves a list, in the world and on its receiver's processor.
use Rattle.std.proofs.Common.{◌≡◌, ℕ, ◌<◌, Bool, true, false, cond, List, [], ◌∷◌, ◌++◌, filter, length, refl, ap, sym, ◌∙◌, subst, arith}
use Rattle.std.specs.Prelude.{◌==◌, not}
use Rattle.std.specs.List.{AllByRecursion}
use Rattle.std.proofs.lemmas.List.{length-map, map_push}
use Rattle.std.proofs.Math.ListN.{get_or-map}
use Rattle.l4_model.specs.Machine.{Machine}
use Rattle.l4_model.specs.World.{World, unqueued, queued}
use Rattle.l4_core_model.specs.Plain as plain
use Rattle.l4_core_model.specs.Local.{Local, relists}
use Rattle.l4_core_model.specs.Acts.{Work, ◌▷◌, does}
use Rattle.l4_core_model.proofs.Changed.{blocks, length-changed, same_nat, filter-blocks}
use Rattle.l4_core_model.proofs.Lists.{all-append, all-filter}
use Rattle.l4_core_model.proofs.Apart.{apart}
use Rattle.l4_refines.proofs.Lists.{changed_cases}
use Rattle.l4_refines.proofs.Frames.Locals.{unqueued_other, unqueued_here, queued_other, list_queued, list_unqueued}
use Rattle.l4_refines.proofs.Relation.Views.{Scene, View, kept, view, home, put, amid, is_of}
use Rattle.l4_refines.proofs.Relation.Relates.{IsSized, RelatesExcept, senders}
use Rattle.l4_refines.proofs.Frames.Places.{put_same, IsAbout, Spares, both_change}

-- Lists of blocks

-- Where a place has no entry, taking its entries out changes nothing.
filter_stays : (i : ℕ) (es : List plain.Waiting) → filter (is_of i) es ≡ [] → filter (λ e. not (i == e.block)) es ≡ es
filter_stays i [] h = refl
filter_stays i (e ∷ es) h = by (i == e.block) h (filter_stays i es)
  where
    by : (b : Bool) → cond b (e ∷ filter (is_of i) es) (filter (is_of i) es) ≡ [] → (filter (is_of i) es ≡ [] → filter (λ e. not (i == e.block)) es ≡ es) →
        cond (not b) (e ∷ filter (λ e. not (i == e.block)) es) (filter (λ e. not (i == e.block)) es) ≡ e ∷ es
    by true h rest = cc
    by false h rest = ap (λ xs. e ∷ xs) (rest h)

-- A send leaves its list. On other processors it stands in none.

unqueued_spares : (m : Machine) (i : ℕ) (except : List ℕ) (l : Local) → IsAbout i except → Spares m except l (relists (plain.unqueued i) l)
unqueued_spares m i except l about = record {
  sized = λ z. record {
    threads = z.threads;
    lists = length-map l.lists.waiting (filter (λ (e : plain.Waiting). not (i == e.block))) ∙ z.lists;
    told = z.told;
    ready = z.ready;
    armed = z.armed;
    listed = λ q. subst (AllByRecursion (λ (e : plain.Waiting). e.block < length m.threads)) (sym (list_unqueued l i q))
        (all-filter (λ (e : plain.Waiting). e.block < length m.threads) (λ (e : plain.Waiting). not (i == e.block)) (plain.list_of l.lists q) (z.listed q));
  };
  clock = refl;
  owed = refl;
  kept = λ j out. unqueued_other l i j (about j out);
}

-- what a list is after it, here and elsewhere
put_without : (cpu c i q : ℕ) (l : Local) (locals : ℕ → Local) → ((cpu ≡ c → ⊥) → (kept (put cpu l locals c) i).listed q ≡ []) →
    plain.list_of (put cpu (relists (plain.unqueued i) l) locals c).lists q ≡ filter (λ (e : plain.Waiting). not (i == e.block))
    (plain.list_of (put cpu l locals c).lists q)
put_without cpu c i q l locals elsewhere = by (cpu == c) (λ h. elsewhere (apart cpu c h)) refl
  where
    by : (b : Bool) → ((cpu == c) ≡ false → filter (is_of i) (plain.list_of (put cpu l locals c).lists q) ≡ []) → (cpu == c) ≡ b →
        plain.list_of (cond b (relists (plain.unqueued i) l) (locals c)).lists q ≡ filter (λ (e : plain.Waiting). not (i == e.block))
        (plain.list_of (cond b l (locals c)).lists q)
    by true none is = list_unqueued l i q
    by false none is = sym (filter_stays i (plain.list_of (locals c).lists q)
        (subst (λ b. filter (is_of i) (plain.list_of (cond b l (locals c)).lists q) ≡ []) is (none is)))

pub unqueues : {P : ℕ → View → Type 0} (m : Machine) (cpu i : ℕ) (except : List ℕ) (s : Scene) (w : World) (x : Work) → IsAbout i except →
    ((c q : ℕ) → (cpu ≡ c → ⊥) → ((view m (amid cpu s x) w i).kept c).listed q ≡ []) →
    RelatesExcept m P except (amid cpu s x) w → RelatesExcept m P except (amid cpu s (x ▷ does (relists (plain.unqueued i)))) (unqueued w i)
unqueues m cpu i except s w x about elsewhere r =
    both_change m cpu except s w x (relists (plain.unqueued i)) (unqueued w i).waiting (unqueued_spares m i except x.local about)
    (length-map w.waiting (filter (λ x. not (i == x))) ∙ r.sized_world.lists)
    (λ q lt. get_or-map (filter (λ x. not (i == x))) w.waiting q [] ∙ ap (filter (λ x. not (i == x))) (r.lists q lt)
    ∙ filter-blocks (λ x. not (i == x)) (senders m (amid cpu s x) q)
    ∙ ap blocks (sym (put_without cpu (home m q) i q x.local s.locals (elsewhere (home m q) q)))) r

-- Of its sender, all else is as it was.

abbrev pub without_lists : View → View
without_lists v = record v { kept = λ c. record (v.kept c) { listed = λ q. [] } }

pub view_unqueued : (m : Machine) (cpu i : ℕ) (s : Scene) (w : World) (x : Work) →
    ((c q : ℕ) → (cpu ≡ c → ⊥) → ((view m (amid cpu s x) w i).kept c).listed q ≡ []) →
    view m (amid cpu s (x ▷ does (relists (plain.unqueued i)))) (unqueued w i) i ≡ without_lists (view m (amid cpu s x) w i)
view_unqueued m cpu i s w x elsewhere =
    let at = λ (c : ℕ). by c (cpu == c) refl in
    λ d. record (view m (amid cpu s x) w i) { kept = λ c. at c d }
  where
    by : (c : ℕ) (b : Bool) → (cpu == c) ≡ b →
        kept (put cpu (relists (plain.unqueued i) x.local) s.locals c) i ≡ record (kept (put cpu x.local s.locals c) i) { listed = λ q. [] }
    by c true is = rw is (unqueued_here x.local i)
    by c false is = let none = λ (q : ℕ). elsewhere c q (apart cpu c is) in
        (stays none ∙ λ d. record (kept (put cpu x.local s.locals c) i) { listed = λ q. none q d })
      where
        stays : ((q : ℕ) → (kept (put cpu x.local s.locals c) i).listed q ≡ []) →
            kept (put cpu (relists (plain.unqueued i) x.local) s.locals c) i ≡ kept (put cpu x.local s.locals c) i
        stays none = rw is refl

-- A send enters the list of a receiver of this processor.

queued_spares : (m : Machine) (r : ℕ) (e : plain.Waiting) (except : List ℕ) (l : Local) → r < length l.lists.waiting → e.block < length m.threads →
    IsAbout e.block except → Spares m except l (relists (plain.queued r e) l)
queued_spares m r e except l within lt about = record {
  sized = λ z. record {
    threads = z.threads;
    lists = length-changed (λ es. es ++ e ∷ []) l.lists.waiting r ∙ z.lists;
    told = z.told;
    ready = z.ready;
    armed = z.armed;
    listed = λ q. list_queued r e l.lists (AllByRecursion (λ (e : plain.Waiting). e.block < length m.threads)) q within
        (λ is. all-append (λ (e : plain.Waiting). e.block < length m.threads) (plain.list_of l.lists q) e (z.listed q) lt) (λ ne. z.listed q);
  };
  clock = refl;
  owed = refl;
  kept = λ j out. queued_other l r j e within (about j out);
}

pub put_here : (cpu c : ℕ) (l : Local) (locals : ℕ → Local) → cpu ≡ c → put cpu l locals c ≡ l
put_here cpu c l locals e = let is = same_nat c in rw (e, is) refl

pub queues : {P : ℕ → View → Type 0} (m : Machine) (cpu r : ℕ) (e : plain.Waiting) (except : List ℕ) (s : Scene) (w : World) (x : Work) → cpu ≡ home m r →
    cpu < m.cpus → r < length m.threads → e.block < length m.threads → IsAbout e.block except →
    RelatesExcept m P except (amid cpu s x) w → RelatesExcept m P except (amid cpu s (x ▷ does (relists (plain.queued r e)))) (queued w r e.block)
queues m cpu r e except s w x here cpu_lt r_lt lt about rel =
    both_change m cpu except s w x (relists (plain.queued r e)) (queued w r e.block).waiting (queued_spares m r e except x.local within lt about)
    (length-changed (λ xs. xs ++ e.block ∷ []) w.waiting r ∙ rel.sized_world.lists)
    (λ q q_lt. changed_cases (λ xs. xs ≡ blocks (senders m (amid cpu s (x ▷ does (relists (plain.queued r e)))) q))
    (λ xs. xs ++ e.block ∷ []) w.waiting r q [] in_world
    (λ is. ap (λ xs. xs ++ e.block ∷ []) (rel.lists q q_lt) ∙ sym (map_push (λ (x : plain.Waiting). x.block) (senders m (amid cpu s x) q) e)
    ∙ ap blocks (sym (grown q is)))
    (λ ne. rel.lists q q_lt ∙ ap blocks (sym (left q ne)))) rel
  where
    size : IsSized m x.local
    size = subst (IsSized m) (put_here cpu cpu x.local s.locals refl) (rel.sized cpu cpu_lt)

    within : r < length x.local.lists.waiting
    within = let z = size in omega (arith, z.lists)

    in_world : r < length w.waiting
    in_world = omega (arith, rel.sized_world.lists)

    left : (q : ℕ) → (r ≡ q → ⊥) → senders m (amid cpu s (x ▷ does (relists (plain.queued r e)))) q ≡ senders m (amid cpu s x) q
    left q ne = put_same (λ l. plain.list_of l.lists q) cpu (home m q) x.local (relists (plain.queued r e) x.local) s.locals
        (list_queued r e x.local.lists (λ es. es ≡ plain.list_of x.local.lists q) q within (λ is. absurd (ne is)) (λ other. refl))

    grown : (q : ℕ) → r ≡ q → senders m (amid cpu s (x ▷ does (relists (plain.queued r e)))) q ≡ senders m (amid cpu s x) q ++ e ∷ []
    grown q is =
        let at : cpu ≡ home m q = here ∙ ap (home m) is in
        ap (λ l. plain.list_of l.lists q) (put_here cpu (home m q) (relists (plain.queued r e) x.local) s.locals at)
        ∙ list_queued r e x.local.lists (λ es. es ≡ plain.list_of x.local.lists q ++ e ∷ []) q within (λ h. refl) (λ ne. absurd (ne is))
        ∙ sym (ap (λ l. plain.list_of l.lists q ++ e ∷ []) (put_here cpu (home m q) x.local s.locals at))
