-- A run may begin with an event of a set of processors to which nobody posts meanwhile.
use Rattle.std.proofs.Common.{◌≡◌, ℕ, suc, Bool, true, false, cond, Option, Some, List, [], ◌∷◌, ◌++◌, refl, ap, sym, ◌∙◌, subst}
use Rattle.std.specs.Prelude.{slice_get, ◌==◌}
use Rattle.std.specs.Option.{option_map}
use Rattle.std.proofs.lemmas.List.{append_cancel_left}
use Rattle.l4_model.specs.Machine.{Machine}
use Rattle.l4_model.specs.World.{changed}
use Rattle.l4_model.specs.Conditions.{◌>>=◌}
use Rattle.l4_core_model.specs.Letters.{Letter}
use Rattle.l4_core_model.specs.Local.{Local}
use Rattle.l4_core_model.specs.Runs.{System, Action, Handles, Turns, Ticks, Happened, happens, letters}
use Rattle.l4_merge.specs.Transitions.{LocalEvent, Handled, Turned, Ticked, letter_of, Transition, letters_with}
use Rattle.l4_merge.specs.LocalTraces.{Begins}
use Rattle.l4_merge.proofs.OneDeed.{given, IsGiven, done_by, happens_so, given-mail, mail_then, locals_then, other_local_then}
use Rattle.l4_states.specs.Choices.{IsLeastTick}
use Rattle.l4_persistent.specs.Persistent.{cpu_of, IsThere, AreSame, Goes, Leads, Done, Then, IsPersistent, AreIdle, BeginsInside}
use Rattle.l4_persistent.proofs.Swaps.{IsDeedOf, deed_of, cpu_is, stays_under_way, given_later, swapped}

-- The same can happen in same states.

given_same : (cpu : ℕ) (event : LocalEvent) (g h : System) → AreSame g h → IsGiven cpu event g → IsGiven cpu event h
given_same cpu (Handled from letter) g h same first = record {
  rest = first.rest;
  is = sym (same.mail from cpu)
      ∙ first.is;
}
given_same cpu Turned g h same first = tt
given_same cpu (Ticked clock) g h same first = tt

same_then : (d : Transition) (g h : System) → AreSame g h → IsGiven d.cpu d.event g → IsGiven d.cpu d.event h →
    AreSame (done_by d g).system (done_by d h).system
same_then d g h same first other = record {
  locals = locals_then d g ∙ ap (λ ls. changed (λ l. d.work.local) ls d.cpu) same.locals ∙ sym (locals_then d h);
  mail = λ from to.
      mail_then d g from to
      ∙ ap (λ ls. ls ++ cond (d.cpu == from) (letters_with to d.work.letters) [])
      (append_cancel_left (cond (d.cpu == to) (letters_with from (letter_of d.event)) [])
      (letters (given d.cpu d.event g).mail from to) (letters (given d.cpu d.event h).mail from to)
      (sym (given-mail d.cpu d.event g first from to) ∙ same.mail from to ∙ given-mail d.cpu d.event h other from to))
      ∙ sym (mail_then d h from to);
}

record HappensSame (m : Machine) (h : System) (a : Action) (x : Happened) : Type 0 where
  happened : Happened
  goes : Goes m h a happened
  same : AreSame x.system happened.system

least_same : (g h : System) (a : Action) → slice_get g.locals (cpu_of a) ≡ slice_get h.locals (cpu_of a) →
    IsLeastTick g a → IsLeastTick h a
least_same g h (Handles cpu from) same least = tt
least_same g h (Turns cpu) same least = tt
least_same g h (Ticks cpu clock) same least =
    sym (ap (λ (o : Option Local). o >>= λ l. option_map (λ (e : ℕ × ℕ). e.0) (slice_get l.lists.armed 0)) same) ∙ least

happens_same : (m : Machine) (g h : System) (a : Action) (x : Happened) → AreSame g h → Goes m g a x →
    HappensSame m h a x
happens_same m g h a x same may =
    let of = deed_of m g a x may.happens in
    let d = of.transition in
    let first = given_same d.cpu d.event g h same of.given in
    record {
      happened = done_by d h;
      goes = record {
        happens = ap (happens m h) (sym of.action) ∙ happens_so m h d of.local
            (ap (λ ls. slice_get ls d.cpu) (sym same.locals) ∙ of.at) of.does first;
        least = least_same g h a (ap (λ ls. slice_get ls (cpu_of a)) same.locals) may.least;
      };
      same = subst (λ (x : Happened). AreSame x.system (done_by d h).system) of.is
          (same_then d g h same of.given first);
    }

record LeadsSame (m : Machine) (h : System) (es : List Action) (end : System) : Type 0 where
  last : System
  leads : Leads m h es last
  same : AreSame end last

leads_same : (m : Machine) (g h : System) (es : List Action) (end : System) → AreSame g h → Leads m g es end →
    LeadsSame m h es end
leads_same m g h [] end same Done = record { last = h; leads = Done; same = same }
leads_same m g h (a ∷ es) end same (Then x goes rest) =
    let s = happens_same m g h a x same goes in
    let more = leads_same m x.system s.happened.system es end s.same rest in
    record { last = more.last; leads = Then s.happened s.goes more.leads; same = more.same }

-- What another processor does leaves a processor's local state, and the letters on their way to it.

pub record HasLeft (m : Machine) (g : System) (a : Action) (h : Happened) : Type 0 where
  pub local : (cpu : ℕ) → (cpu_of a ≡ cpu → ⊥) → slice_get h.system.locals cpu ≡ slice_get g.locals cpu
  pub mail : (from to : ℕ) → (cpu_of a ≡ to → ⊥) → Begins (letters g.mail from to) (letters h.system.mail from to)

pub has_left : (m : Machine) (g : System) (a : Action) (h : Happened) → happens m g a ≡ Some h → HasLeft m g a h
has_left m g a h may =
    let of = deed_of m g a h may in
    let d = of.transition in
    let cpu : d.cpu ≡ cpu_of a = sym (cpu_is d.cpu d.event) ∙ ap cpu_of of.action in
    subst (HasLeft m g a) of.is (record {
      local = λ p other. other_local_then d g p (λ s. other (sym cpu ∙ s));
      mail = λ from to other. stays_under_way d g from to (λ s. other (sym cpu ∙ s)) of.given;
    })

-- So what it can do it still can do.
still_goes : (m : Machine) (g : System) (a b : Action) (h x : Happened) → (cpu_of a ≡ cpu_of b → ⊥) → Goes m g a h →
    Goes m g b x → (y : Happened) × Goes m h.system b y
still_goes m g a b h x other goes can =
    let da = deed_of m g a h goes.happens in
    let db = deed_of m g b x can.happens in
    let d = da.transition in
    let e = db.transition in
    let apart : e.cpu ≡ d.cpu → ⊥ =
    λ s. other (sym (ap cpu_of da.action) ∙ cpu_is d.cpu d.event ∙ sym s ∙ sym (cpu_is e.cpu e.event)
    ∙ ap cpu_of db.action) in
    let left = has_left m g a h goes.happens in
    let at : slice_get (done_by d g).system.locals e.cpu ≡ Some db.local =
    other_local_then d g e.cpu (λ s. apart (sym s)) ∙ db.at in
    let now : happens m (done_by d g).system b ≡ Some (done_by e (done_by d g).system) =
    ap (happens m (done_by d g).system) (sym db.action) ∙ happens_so m (done_by d g).system e db.local at db.does
    (given_later e d g apart db.given da.given) in (
      done_by e (done_by d g).system,
      record {
        happens = subst (λ (h : Happened). happens m h.system b ≡ Some (done_by e (done_by d g).system)) da.is now;
        least = least_same g h.system b (sym (left.local (cpu_of b) other)) can.least;
      },
    )

-- Quiet states stay persistent.

nothing_before : (xs ys : List Letter) → Begins xs ys → ys ≡ [] → xs ≡ []
nothing_before [] ys b e = refl
nothing_before (x ∷ xs) ys b e = cc

pub apart_by : (set : ℕ → Bool) (p q : ℕ) → set p ≡ false → set q ≡ true → p ≡ q → ⊥
apart_by set p q out inside same = let both : set p ≡ true = ap set same ∙ inside in cc

stays_persistent : (m : Machine) (g : System) (set : ℕ → Bool) (a : Action) (h : Happened) → IsPersistent m g set →
    set (cpu_of a) ≡ false → Goes m g a h → IsPersistent m h.system set
stays_persistent m g set a h persistent out goes es end outside leads from to inside empty =
    let left = has_left m g a h goes.happens in
    persistent (a ∷ es) end (out, outside) (Then h goes leads) from to inside
    (nothing_before (letters g.mail from to) (letters h.system.mail from to)
    (left.mail from to (apart_by set (cpu_of a) to out inside)) empty)

-- A letter that is handled was there before the other processors went on.
was_there : (m : Machine) (g : System) (set : ℕ → Bool) (a b : Action) (h y : Happened) → IsPersistent m g set →
    set (cpu_of a) ≡ false → set (cpu_of b) ≡ true → Goes m g a h →
    happens m h.system b ≡ Some y → IsThere g b
was_there m g set a (Handles cpu from) h y persistent out inside goes next = λ empty.
    let later : letters h.system.mail from cpu ≡ [] = persistent (a ∷ []) h.system (
      out,
      tt,
    ) (Then h goes Done) from cpu inside empty in
    nothing (letters h.system.mail from cpu) later (deed_of m h.system (Handles cpu from) y next)
  where
    nothing : (ls : List Letter) → letters h.system.mail from cpu ≡ [] → IsDeedOf m h.system (Handles cpu from) y → ⊥
    nothing ls later of = by of.transition.cpu of.transition.event of.action of.given
      where
        by : (p : ℕ) (event : LocalEvent) → Rattle.l4_merge.specs.Transitions.action_of p event ≡ Handles cpu from →
            IsGiven p event h.system → ⊥
        by p (Handled q letter) is given =
            let same_cpu : p ≡ cpu = cc in
            let same_from : q ≡ from = cc in
            let here : letters h.system.mail q p ≡ [] = rw (same_cpu, same_from) later in
            let both = sym given.is ∙ here in
            cc
        by p Turned is given = cc
        by p (Ticked clock) is given = cc
was_there m g set a (Turns cpu) h y persistent out inside goes next = tt
was_there m g set a (Ticks cpu clock) h y persistent out inside goes next = tt

-- The first event of the set comes to the front.

one_earlier : (m : Machine) (g : System) (set : ℕ → Bool) (a : Action) (h : Happened) (es : List Action)
    (end : System) → IsPersistent m g set → set (cpu_of a) ≡ false → Goes m g a h →
    BeginsInside m h.system set es end → BeginsInside m g set (a ∷ es) end
one_earlier m g set a h es end persistent out goes i =
    let b = i.first in
    let apart = apart_by set (cpu_of a) (cpu_of b) out i.inside in
    let s = swapped m g a b h i.after apart goes.happens i.goes.happens
    (was_there m g set a b h i.after persistent out i.inside goes i.goes.happens) in
    let left = has_left m g a h goes.happens in
    let left_first = has_left m g b s.first s.goes in
    let more = leads_same m i.after.system s.second.system i.rest i.last s.same i.leads in
    record {
      first = b;
      inside = i.inside;
      after = s.first;
      goes = record { happens = s.goes; least = least_same h.system g b (left.local (cpu_of b) apart) i.goes.least };
      rest = a ∷ i.rest;
      last = more.last;
      leads =
          Then s.second
          (record {
            happens = s.goes_on;
            least = least_same g s.first.system a
                (sym (left_first.local (cpu_of a) (λ e. apart (sym e)))) goes.least;
          })
          more.leads;
      same = record {
        locals = i.same.locals ∙ more.same.locals;
        mail = λ from to. i.same.mail from to ∙ more.same.mail from to;
      };
      long = ap suc i.long;
    }

pub begins_inside : (m : Machine) (g : System) (set : ℕ → Bool) (b : Action) (x : Happened) (es : List Action)
    (end : System) → IsPersistent m g set → set (cpu_of b) ≡ true →
    Goes m g b x → Leads m g es end → AreIdle m end set → BeginsInside m g set es end
begins_inside m g set b x [] end persistent inside can Done idle = absurd (idle b x inside can)
begins_inside m g set b x (a ∷ es) end persistent inside can (Then h goes rest) idle =
    by (set (cpu_of a)) refl λ is.
    let still = still_goes m g a b h x (apart_by set (cpu_of a) (cpu_of b) is inside) goes can in
    one_earlier m g set a h es end persistent is goes
    (begins_inside m h.system set b still.0 es end
    (stays_persistent m g set a h persistent is goes) inside still.1 rest idle)
  where
    by : (c : Bool) → set (cpu_of a) ≡ c → (set (cpu_of a) ≡ false → BeginsInside m g set (a ∷ es) end) →
        BeginsInside m g set (a ∷ es) end
    by true is later = record {
      first = a;
      inside = is;
      after = h;
      goes = goes;
      rest = es;
      last = end;
      leads = rest;
      same = record { locals = refl; mail = λ from to. refl };
      long = refl;
    }
    by false is later = later is
