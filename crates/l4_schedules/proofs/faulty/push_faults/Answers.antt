use Rattle.std.proofs.Common.{◌≡◌, ℕ, ◌+◌, ◌<◌, List, [], ◌∷◌, ◌++◌, length, map, take, get_or, ap, ◌∙◌, sym, append-nil, append_assoc}
use Rattle.std.proofs.lemmas.Grind.{flat_map-append}
use Rattle.std.proofs.lemmas.List.{map-append, take_more}
use Rattle.l4_schedules.specs.declared.faulty.ItemFault.{ItemFault}
use Rattle.l4_schedules.specs.Faulty.{fault_line, faults_text}
use Rattle.l4_schedules.specs.Inner.Views.{fault_of}
use Rattle.l4_schedules.proofs.faulty.push_faults.Goals as goal

-- The line of one more fault comes last.

abbrev told : List ItemFault → List ℕ
told found = faults_text (map fault_of found)

one_more : (found : List ItemFault) (i : ℕ) (d : ItemFault) → i < length found →
    told (take (i + 1) found) ≡ told (take i found) ++ fault_line (fault_of (get_or found i d))
one_more found i d inside =
    ap told (take_more found i d inside)
    ∙ ap faults_text (map-append fault_of (take i found) (get_or found i d ∷ []))
    ∙ flat_map-append fault_line (map fault_of (take i found)) (fault_of (get_or found i d) ∷ [])
    ∙ ap (λ (line : List ℕ). told (take i found) ++ line)
    (append-nil (fault_line (fault_of (get_or found i d))))

goes_on : (found : List ItemFault) (i : ℕ) (d : ItemFault) (old out new : List ℕ) →
    i < length found → out ≡ old ++ told (take i found) →
    new ≡ out ++ fault_line (fault_of (get_or found i d)) → new ≡ old ++ told (take (i + 1) found)
goes_on found i d old out new inside so_far line =
    line ∙ ap (λ (text : List ℕ). text ++ fault_line (fault_of (get_or found i d))) so_far
    ∙ append_assoc old (told (take i found)) (fault_line (fault_of (get_or found i d)))
    ∙ ap (λ (text : List ℕ). old ++ text) (sym (one_more found i d inside))

pub loop-fault-preserved : goal.loop-fault-preserved
loop-fault-preserved c =
    goes_on c.args.found.now c.loop-fault.fault-index _ _ _ _ c.loop-fault-test.true
    c.loop-fault.invariant c.in_ok-push_fault.ensures
