-- Lines that are written from the last to the first, a block of them at a time.
use Rattle.std.proofs.Common.{◌≡◌, ◌∙◌, ℕ, ◌+◌, ◌*◌, ◌≤◌, Bool, true, false, List, [], ◌∷◌, ◌++◌, length, take, drop, ap, refl, sym, append-nil, append_assoc, arith}
use Rattle.std.specs.Prelude.{◌&&◌}
use Rattle.std.specs.List.{list_all}
use Rattle.std.proofs.lemmas.Grind.{flat_map-append}
use Rattle.std.proofs.lemmas.List.{drop_all, length-append, take-append-drop}
use Rattle.std.proofs.lemmas.List.Folds.{list_all-append}
use Rattle.l4_model.specs.Steps.{Step}
use Rattle.l4_trace.specs.Lines.{has_line, line_of, trace_of}
use Rattle.l4_trace.specs.Inner.Texts.{HasBefore}
use Rattle.l4_trace.specs.declared.lines.TheConstants.{LONGEST_LINE}

and_true : (b c : Bool) → c ≡ true → (b && (c && true)) ≡ b
and_true true true e = refl
and_true false true e = refl
and_true b false e = absurd cc

and_one : (b c : Bool) → b ≡ true → (b && c) ≡ c
and_one true c e = refl
and_one false c e = absurd cc

-- One more line stands before those that are written.
pub line_more : (left rest all : List Step) (step : Step) (old new : List ℕ) (end start : ℕ) → left ≡ rest ++ step ∷ [] →
    HasBefore old end step new start → trace_of left ++ drop end old ≡ trace_of all → trace_of rest ++ drop start new ≡ trace_of all
line_more left rest all step old new end start last before lines =
    ap (λ (xs : List ℕ). trace_of rest ++ xs) before.line
    ∙ sym (append_assoc (trace_of rest) (line_of step) (drop end old))
    ∙ ap (λ (xs : List ℕ). (trace_of rest ++ xs) ++ drop end old) (sym (append-nil (line_of step)))
    ∙ ap (λ (xs : List ℕ). xs ++ drop end old) (sym (ap trace_of last ∙ flat_map-append line_of rest (step ∷ [])))
    ∙ lines

pub spelled_more : (left rest : List Step) (step : Step) → left ≡ rest ++ step ∷ [] → has_line step ≡ true →
    list_all has_line rest ≡ list_all has_line left
spelled_more left rest step last spelled =
    sym (ap (λ (steps : List Step). list_all has_line steps) last ∙ list_all-append has_line rest (step ∷ []) ∙ and_true (list_all has_line rest) (has_line step) spelled)

pub fewer_left : (left rest : List Step) (step : Step) → left ≡ rest ++ step ∷ [] → length left ≡ length rest + 1
fewer_left left rest step last = ap (λ (steps : List Step). length steps) last ∙ length-append rest (step ∷ [])

pub room_left : (left rest : List Step) (step : Step) (end start : ℕ) → left ≡ rest ++ step ∷ [] → LONGEST_LINE * length left ≤ end →
    end ≤ start + LONGEST_LINE → LONGEST_LINE * length rest ≤ start
room_left left rest step end start last enough few = omega (arith, fewer_left left rest step last, enough, few)

-- Nothing is written at first.
pub none_written : (all : List Step) (bytes : List ℕ) (end : ℕ) → length bytes ≤ end → trace_of all ++ drop end bytes ≡ trace_of all
none_written all bytes end past = ap (λ (xs : List ℕ). trace_of all ++ xs) (drop_all end bytes past) ∙ append-nil (trace_of all)

-- A block of lines stands behind those that were written before.

pub block_more : (before after block : List ℕ) (left first : List Step) (n : ℕ) → after ≡ before ++ block → block ≡ trace_of first → first ≡ take n left →
    after ++ trace_of (drop n left) ≡ before ++ trace_of left
block_more before after block left first n written lines is =
    ap (λ (xs : List ℕ). xs ++ trace_of (drop n left)) (written ∙ ap (λ (xs : List ℕ). before ++ xs) (lines ∙ ap trace_of is))
    ∙ append_assoc before (trace_of (take n left)) (trace_of (drop n left))
    ∙ ap (λ (xs : List ℕ). before ++ xs) (sym (flat_map-append line_of (take n left) (drop n left)) ∙ ap trace_of (take-append-drop n left))

pub block_spelled : (left first : List Step) (n : ℕ) → first ≡ take n left → list_all has_line first ≡ true →
    list_all has_line (drop n left) ≡ list_all has_line left
block_spelled left first n is spelled =
    sym (ap (λ (steps : List Step). list_all has_line steps) (sym (take-append-drop n left)) ∙ list_all-append has_line (take n left) (drop n left)
    ∙ and_one (list_all has_line (take n left)) (list_all has_line (drop n left)) (ap (λ (steps : List Step). list_all has_line steps) (sym is) ∙ spelled))
