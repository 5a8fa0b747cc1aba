-- Names of ids and of instructions: what may have one, and what a line with one says.
use Rattle.std.proofs.Common.{◌≡◌, ℕ, Bool, true, false, cond, List, [], ◌∷◌, Option, Some, None, Ok, Err, refl, ap, sym, subst, ◌∙◌}
use Rattle.std.specs.Prelude.{◌==◌, ◌&&◌, ◌||◌, not, find, is_none, codes}
use Rattle.std.specs.Option.{option_map}
use Rattle.std.specs.Str.{bytes_eq}
use Rattle.std.proofs.lemmas.Slice.Eq.{bytes_eq-Decides}
use Rattle.l4_model.specs.Words.{Format}
use Rattle.l4_model.specs.Machine.{Instr, Jump, OnErr}
use Rattle.l4_script.specs.declared.text.fault.TextFaultKind.{TextFaultKind}
use Rattle.l4_script.specs.declared.text.fault.TextFaultKind.TheVariants.{BadLine}
use Rattle.l4_script.specs.Judged.{Judged}
use Rattle.l4_script.specs.Operations.{operation_named}
use Rattle.l4_script.specs.Statements.{end_of, value_of}
use Rattle.l4_script.specs.Inner.Second.{begins_as_branch, judged_line}
use Rattle.l4_script.specs.Second.Names.{Named, branches, id_under, is_among, is_declared_in}
use Rattle.l4_script.specs.Second.Statements.{Unplaced, goes_to, on_label_of, on_word_of, on_from_of, plain_of, without_target, second_other_of, second_instruction_of}
use Rattle.l4_script.specs.Second.Texts.{Reading, has_script, may_be_labelled, with_label, said_line, labelled_instruction}

-- No id has a name that is not declared.
pub no_id : (names : List Named) (name : List ℕ) → is_none (id_under names name) ≡ not (is_declared_in names name)
no_id [] name = refl
no_id (n ∷ names) name = by (bytes_eq n.name name) (no_id names name)
  where
    by : (b : Bool) → is_none (id_under names name) ≡ not (is_declared_in names name)
        → is_none (option_map (λ (n : Named). n.id) (cond b (Some n) (find (λ n. bytes_eq n.name name) names))) ≡ not (b || is_declared_in names name)
    by true e = refl
    by false e = e

-- The choice that is left where none of five tests holds.
none_of : {X : Type 0} (a b c d e : Bool) (u v w x y z : X) → (a || (b || (c || (d || (e || false))))) ≡ false
    → cond a u (cond b v (cond c w (cond d x (cond e y z)))) ≡ z
none_of true b c d e u v w x y z h = absurd cc
none_of false true c d e u v w x y z h = absurd cc
none_of false false true d e u v w x y z h = absurd cc
none_of false false false true e u v w x y z h = absurd cc
none_of false false false false true u v w x y z h = absurd cc
none_of false false false false false u v w x y z h = refl

-- What is no branch goes on with the next.
goes_on : (f : Format) (names : List Named) (name : List ℕ) (operands : List (List ℕ)) → is_among branches name ≡ false
    → second_instruction_of f names name operands ≡ without_target (plain_of f names name operands)
unfolding second_instruction_of
goes_on f names name operands none =
    none_of (bytes_eq name (codes "jump")) (bytes_eq name (codes "onerr")) (bytes_eq name (codes "onlabel"))
    (bytes_eq name (codes "onword")) (bytes_eq name (codes "onfrom")) (goes_to (Jump 0) operands) (goes_to (OnErr 0) operands)
    (on_label_of f operands) (on_word_of f operands) (on_from_of f names operands) (without_target (plain_of f names name operands)) none

-- What names another instruction begins with one of two letters.
no_branch : (name : List ℕ) → begins_as_branch name ≡ false → is_among branches name ≡ false
no_branch [] none = refl
no_branch (byte ∷ bytes) none = by (byte == 106) (byte == 111) none
  where
    by : (j o : Bool) → (j || o) ≡ false → ((j && bytes_eq bytes (codes "ump")) || ((o && bytes_eq bytes (codes "nerr")) || ((o && bytes_eq bytes (codes "nlabel"))
        || ((o && bytes_eq bytes (codes "nword")) || ((o && bytes_eq bytes (codes "nfrom")) || false))))) ≡ false
    by true o none = absurd cc
    by false true none = absurd cc
    by false false none = refl

-- `end` by its word.
end_said : (f : Format) (names : List Named) (name : List ℕ) (operands : List (List ℕ)) → bytes_eq name (codes "end") ≡ true
    → second_instruction_of f names name operands ≡ without_target (end_of operands)
unfolding second_instruction_of plain_of value_of operation_named second_other_of
end_said f names name operands e =
    subst (λ (word : List ℕ). second_instruction_of f names word operands ≡ without_target (end_of operands)) (sym ((bytes_eq-Decides name (codes "end")).0 e)) refl

module _ (line : ℕ) (label : Option (List ℕ)) (name : List ℕ) (operands : List (List ℕ)) (r : Reading) where
  pub no_script : has_script r ≡ false → labelled_instruction line label name operands r ≡ Err BadLine
  no_script script = by label
    where
      by : (label : Option (List ℕ)) → labelled_instruction line label name operands r ≡ Err BadLine
      by None = rw script refl
      by (Some other) = rw script refl

  pub no_label : (kind : TextFaultKind) → may_be_labelled r label ≡ Err kind → labelled_instruction line label name operands r ≡ Err kind
  no_label kind e = by label e
    where
      by : (label : Option (List ℕ)) → may_be_labelled r label ≡ Err kind → labelled_instruction line label name operands r ≡ Err kind
      by None e = absurd cc
      by (Some other) e = rw e refl

  pub no_instruction : (kind : TextFaultKind) → has_script r ≡ true → may_be_labelled r label ≡ Ok tt → second_instruction_of r.format r.names name operands ≡ Err kind
      → labelled_instruction line label name operands r ≡ Err kind
  no_instruction kind script may e = by label may
    where
      by : (label : Option (List ℕ)) → may_be_labelled r label ≡ Ok tt → labelled_instruction line label name operands r ≡ Err kind
      by None may = rw (script, e) refl
      by (Some other) may = rw (may, script, e) refl

  pub said_so : (said : Unplaced) → has_script r ≡ true → may_be_labelled r label ≡ Ok tt → second_instruction_of r.format r.names name operands ≡ Ok said
      → labelled_instruction line label name operands r ≡ said_line line said (with_label label r)
  said_so said script may e = by label may
    where
      by : (label : Option (List ℕ)) → may_be_labelled r label ≡ Ok tt → labelled_instruction line label name operands r ≡ said_line line said (with_label label r)
      by None may = rw (script, e) refl
      by (Some other) may = rw (may, script, e) refl

  pub no_plain : (kind : TextFaultKind) → has_script r ≡ true → may_be_labelled r label ≡ Ok tt → begins_as_branch name ≡ false → plain_of r.format r.names name operands ≡ Err kind
      → labelled_instruction line label name operands r ≡ Err kind
  no_plain kind script may none e = no_instruction kind script may (goes_on r.format r.names name operands (no_branch name none) ∙ rw e refl)

  pub plain_so : (instr : Instr) → has_script r ≡ true → may_be_labelled r label ≡ Ok tt → begins_as_branch name ≡ false → plain_of r.format r.names name operands ≡ Ok instr
      → labelled_instruction line label name operands r ≡ said_line line (record { instr = instr; target = None }) (with_label label r)
  plain_so instr script may none e = said_so (record { instr = instr; target = None }) script may (goes_on r.format r.names name operands (no_branch name none) ∙ rw e refl)

  judged_so : has_script r ≡ true → may_be_labelled r label ≡ Ok tt
      → labelled_instruction line label name operands r ≡ judged_line line label (second_instruction_of r.format r.names name operands) r
  unfolding judged_line
  judged_so script may = by label may
    where
      by : (label : Option (List ℕ)) → may_be_labelled r label ≡ Ok tt
          → labelled_instruction line label name operands r ≡ judged_line line label (second_instruction_of r.format r.names name operands) r
      by None may = rw script refl
      by (Some other) may = rw (may, script) refl

  pub end_so : has_script r ≡ true → may_be_labelled r label ≡ Ok tt → bytes_eq name (codes "end") ≡ true
      → labelled_instruction line label name operands r ≡ judged_line line label (without_target (end_of operands)) r
  end_so script may e = judged_so script may ∙ ap (λ (judged : Judged Unplaced). judged_line line label judged r) (end_said r.format r.names name operands e)

  pub jump_so : has_script r ≡ true → may_be_labelled r label ≡ Ok tt → bytes_eq name (codes "jump") ≡ true
      → labelled_instruction line label name operands r ≡ judged_line line label (goes_to (Jump 0) operands) r
  unfolding second_instruction_of
  jump_so script may e = judged_so script may ∙ ap (λ (judged : Judged Unplaced). judged_line line label judged r) (rw e refl)

  pub on_error_so : has_script r ≡ true → may_be_labelled r label ≡ Ok tt → bytes_eq name (codes "jump") ≡ false → bytes_eq name (codes "onerr") ≡ true
      → labelled_instruction line label name operands r ≡ judged_line line label (goes_to (OnErr 0) operands) r
  unfolding second_instruction_of
  on_error_so script may other e = judged_so script may ∙ ap (λ (judged : Judged Unplaced). judged_line line label judged r) (rw (other, e) refl)
