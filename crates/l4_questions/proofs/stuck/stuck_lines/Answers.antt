use Rattle.std.proofs.Common.{◌≡◌, ◌+◌, ◌<◌, ◌≤◌, ◌++◌, ◌∷◌, Bool, List, ℕ, append-nil, append_assoc, drop, false, get_or, length, ap, subst, sym, ◌∙◌, arith}
use Rattle.std.proofs.lemmas.List.{at_drop_all, at_drop_more}
use Rattle.l4_model.specs.Machine.{Machine}
use Rattle.l4_stuck.specs.Stuck.{stuck_from, stuck_of, IsStuck}
use Rattle.l4_stuck.specs.declared.search.StuckThread.{StuckThread}
use Rattle.l4_questions.specs.Stuck.{cut_line, stuck_line, stuck_text}
use Rattle.l4_questions.proofs.StuckThreads.{at_place}
use Rattle.l4_questions.proofs.stuck.stuck_lines.Goals as goal

pub write_line-requires : goal.write_line-requires
write_line-requires c =
    let threads = c.args.found.now.threads.items in
    let item = c.stuck-item.result in
    let is_stuck = λ (t : StuckThread). IsStuck c.args.machine.now (stuck_from t) in
    let i = c.loop-stuck.stuck-index in
    let inside : i < length threads
    = omega (arith, c.loop-stuck-test.true, ap length c.deref-stuck-items.ensures.value) in
    subst is_stuck
    (sym (c.stuck-item.is ∙ ap (λ (ts : List StuckThread). get_or ts i item) c.deref-stuck-items.ensures.value))
    (at_place is_stuck item threads i inside c.requires)

pub loop-stuck-preserved : goal.loop-stuck-preserved
loop-stuck-preserved c =
    let m = c.args.machine.now in
    let threads = c.args.found.now.threads.items in
    let item = c.stuck-item.result in
    let i = c.loop-stuck.stuck-index in
    let inside : i < length threads
    = omega (arith, c.loop-stuck-test.true, ap length c.deref-stuck-items.ensures.value) in
    let is = c.stuck-item.is
    ∙ ap (λ (ts : List StuckThread). get_or ts i item) c.deref-stuck-items.ensures.value in
    let before = c.loop-stuck.lines.items in
    let text : List StuckThread → List ℕ = λ ts. before ++ stuck_text m (stuck_of ts) in
    let left = drop (i + 1) threads in
    ap (λ (ls : List ℕ). ls ++ stuck_text m (stuck_of left)) c.in_ok-write_line.ensures
    ∙ append_assoc before (stuck_line m (stuck_from item)) (stuck_text m (stuck_of left))
    ∙ sym (at_drop_more text threads i item inside ∙ ap (λ t. text (t ∷ left)) (sym is))
    ∙ c.loop-stuck.invariant

-- At the end no thread is left.
all_told : (m : Machine) (threads : List StuckThread) (i : ℕ) (lines : List ℕ) →
    length threads ≤ i →
    lines ++ stuck_text m (stuck_of (drop i threads)) ≡ stuck_text m (stuck_of threads) →
    lines ≡ stuck_text m (stuck_of threads)
all_told m threads i lines over told =
    sym (append-nil lines)
    ∙ sym (at_drop_all (λ (ts : List StuckThread). lines ++ stuck_text m (stuck_of ts)) threads i over)
    ∙ told

pub returns-then-found : goal.returns-then-found
returns-then-found c =
    let m = c.args.machine.now in
    let threads = c.args.found.now.threads.items in
    all_told m threads c.loop-stuck.stuck-index c.loop-stuck.lines.items
    (omega (arith, c.loop-stuck-test.false, ap length c.deref-stuck-items.ensures.value))
    c.loop-stuck.invariant
    ∙ sym (append-nil (stuck_text m (stuck_of threads)))
    ∙ ap (λ (b : Bool). stuck_text m (stuck_of threads) ++ cut_line b) (sym c.if-found.true)

pub returns : goal.returns
returns c =
    let m = c.args.machine.now in
    let threads = c.args.found.now.threads.items in
    c.in_ok-extend_from_slice.ensures.items
    ∙ ap (λ text. text ++ cut_line false)
    (all_told m threads c.loop-stuck.stuck-index c.loop-stuck.lines.items
    (omega (arith, c.loop-stuck-test.false, ap length c.deref-stuck-items.ensures.value))
    c.loop-stuck.invariant)
    ∙ ap (λ (b : Bool). stuck_text m (stuck_of threads) ++ cut_line b) (sym c.if-found.false)
