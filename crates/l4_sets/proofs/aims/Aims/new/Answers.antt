use Rattle.std.proofs.Common.{◌≡◌, ◌+◌, ◌≤◌, false, Bool, List, [], ◌∷◌, length, map, ap, subst, sym, ◌∙◌, arith, Vec, Global}
use Rattle.std.specs.Prelude.{slice_index_or}
use Rattle.std.proofs.lemmas.List.{length-append, length-map, map-append}
use Rattle.l4_model.specs.Machine.{Declaration, Instr, most_instructions}
use Rattle.l4_core_model.specs.Local.{declared, undeclared}
use Rattle.l4_persistent.specs.Inner.Posts.{is_deletable}
use Rattle.l4_script.specs.Inner.Scripts.{instr_of}
use Rattle.l4_sets.specs.Inner.Aimed.{script_at, AreAimed}
use Rattle.l4_sets.specs.declared.aims.Aimed.{Aimed}
use Rattle.l4_sets.proofs.Gathering.{any_end, each_more}
use Rattle.l4_sets.proofs.aims.Aims.new.Goals as goal

pub loop-declared-preserved : goal.loop-declared-preserved
loop-declared-preserved c =
    let m = c.args.machine.now in
    let inv = c.loop-declared.invariant in
    let index = c.loop-declared.declared-index in
    let d = c.declared-item.result in
    let script = c.script.result.now in
    let one = c.in_ok-aims_of_script.field-0 in
    let old = map (λ (s : Vec Aimed Global). s.items) c.loop-declared.scripts.items in
    let here : declared m index ≡ d =
    sym (c.declared-item.is
    ∙ (λ i. slice_index_or (c.threads-threads.ensures.value i) index d)
    ∙ any_end m.threads index d undeclared
    (omega (arith, c.loop-declared-test.true, ap length c.threads-threads.ensures.value))) in
    let same : map instr_of script ≡ (declared m index).script =
    c.script.ensures.value ∙ ap (λ (x : Declaration). x.script) (sym here) in
    let long : length old ≡ index = length-map c.loop-declared.scripts.items (λ s. s.items) ∙ inv.scripts in
    record {
      scripts = ap length c.in_ok-push.ensures.items
          ∙ length-append c.loop-declared.scripts.items (one ∷ []) ∙ ap (λ n. n + 1) inv.scripts;
      flags = ap length c.in_ok-push-2.ensures.items
          ∙ length-append c.loop-declared.deletable.items (c.is_deletable.result ∷ [])
          ∙ ap (λ n. n + 1) inv.flags;
      short = λ i inside.
          each_more (λ i (u : Bool). length (declared m i).script ≤ most_instructions) false
          c.loop-declared.deletable.items false
          (λ i l. inv.short i (omega (arith, l, inv.flags)))
          (subst (λ k. length (declared m k).script ≤ most_instructions) (sym inv.flags)
          (subst (λ (xs : List Instr). length xs ≤ most_instructions) same
          (omega (arith, c.script.ensures.limit, length-map script instr_of)))) i
          (omega (arith, inside, inv.flags));
      aimed = λ i inside.
          subst (λ vs. AreAimed m (declared m i).script (script_at vs i))
          (sym (ap (map (λ (s : Vec Aimed Global). s.items)) c.in_ok-push.ensures.items
          ∙ map-append (λ (s : Vec Aimed Global). s.items) c.loop-declared.scripts.items (one ∷ [])))
          (each_more (λ i xs. AreAimed m (declared m i).script xs) [] old one.items
          (λ i l. inv.aimed i (omega (arith, l, long)))
          (subst (λ k. AreAimed m (declared m k).script one.items) (sym long)
          (subst (λ (xs : List Instr). AreAimed m xs one.items) same c.in_ok-aims_of_script.ensures)) i
          (omega (arith, inside, long)));
      deletes = λ i inside.
          subst (λ fs. slice_index_or fs i false ≡ is_deletable m (declared m i).id)
          (sym c.in_ok-push-2.ensures.items)
          (each_more (λ i b. b ≡ is_deletable m (declared m i).id) false
          c.loop-declared.deletable.items c.is_deletable.result
          (λ i l. inv.deletes i (omega (arith, l, inv.flags)))
          (subst (λ k. c.is_deletable.result ≡ is_deletable m (declared m k).id) (sym inv.flags)
          (c.is_deletable.ensures ∙ ap (is_deletable m)
          (c.id.ensures ∙ ap (λ (x : Declaration). x.id) (sym here)))) i
          (omega (arith, inside, inv.flags)));
    }
