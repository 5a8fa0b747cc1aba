use Rattle.std.proofs.Common.{◌∷◌, length}
use Rattle.l4_states.specs.Inner.Codes.{lists_code, number_code, optional, owed_code, sized, thread_code}
use Rattle.l4_codes.proofs.Writing.{last, then}
use Rattle.l4_codes.proofs.processors.put_core.Goals as goal

pub returns : goal.returns
returns c =
    let n = length c.args.core.now.machine.threads in
    let l = c.args.core.now.local in
    last c.put_all_owed.result
    (λ rest. 1 ∷ sized n thread_code l.threads (lists_code n l.clock l.lists
    (sized n number_code l.told rest)))
    (sized n (optional owed_code) l.owed) c.args.code.now c.put_told.new.code
    c.put_all_owed.new.code
    (then (λ rest. 1 ∷ sized n thread_code l.threads (lists_code n l.clock l.lists rest))
    (sized n number_code l.told) c.args.code.now c.put_lists.new.code c.put_told.new.code
    (then (λ rest. 1 ∷ sized n thread_code l.threads rest) (lists_code n l.clock l.lists)
    c.args.code.now c.put_threads.new.code c.put_lists.new.code
    (then (number_code 1) (sized n thread_code l.threads) c.args.code.now c.put.new.self
    c.put_threads.new.code c.in_ok-put.ensures c.in_ok-put_threads.ensures)
    c.in_ok-put_lists.ensures) c.in_ok-put_told.ensures)
    c.put_all_owed.ensures
