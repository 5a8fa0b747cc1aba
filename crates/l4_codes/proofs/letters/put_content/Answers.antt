use Rattle.l4_states.specs.Inner.Codes.{cause_code, content_code, flag_code, global_code, message_code, name_code, number_code, owed_code, result_code}
use Rattle.l4_model.specs.Steps.{order_kind_code}
use Rattle.l4_types.specs.Inner.LetterHeads.{content_with, message_with}
use Rattle.l4_types.specs.Inner.LetterView.{cause_of_withdrawal, decision_of}
use Rattle.l4_types.specs.Inner.OwedView.{owed_of}
use Rattle.l4_types.specs.StepView.{order_kind_of}
use Rattle.l4_types.specs.declared.letters.Content.{Content}
use Rattle.std.proofs.Common.{ap, sym}
use Rattle.l4_codes.proofs.Writing.{last, same_last, then}
use Rattle.l4_codes.proofs.letters.put_content.Goals as goal

pub returns-in_ok-put_message-in-Send : goal.returns-in_ok-put_message-in-Send
returns-in_ok-put_message-in-Send c =
    same_last c.put_flag.result (λ rest. number_code 0 (name_code c.in-Send.name (global_code
    c.in-Send.receiver (message_code (message_with c.args.words.now c.in-Send.message) (flag_code c.in-Send.zero_timeout rest)))))
    (content_code (content_with c.args.words.now c.args.content.now)) c.args.code.now c.put_flag.new.self (λ rest. ap
    (λ (d : Content). content_code (content_with c.args.words.now d) rest) (sym c.in-Send.is))
    (last c.put_flag.result (λ rest. number_code 0 (name_code c.in-Send.name (global_code
    c.in-Send.receiver (message_code (message_with c.args.words.now c.in-Send.message) rest)))) (flag_code c.in-Send.zero_timeout)
    c.args.code.now c.put_message.new.code c.put_flag.new.self (then (λ rest. number_code 0
    (name_code c.in-Send.name (global_code c.in-Send.receiver rest))) (message_code (message_with c.args.words.now c.in-Send.message)) c.args.code.now c.put_global.new.code c.put_message.new.code (then (λ rest.
    number_code 0 (name_code c.in-Send.name rest)) (global_code c.in-Send.receiver) c.args.code.now
    c.put_name.new.code c.put_global.new.code (then (number_code 0) (name_code c.in-Send.name)
    c.args.code.now c.put.new.self c.put_name.new.code c.in_ok-put-in-Send.ensures
    c.in_ok-put_name-in-Send.ensures) c.in_ok-put_global-in-Send.ensures) (rw c.with.ensures at
    c.in_ok-put_message-in-Send.ensures)) c.put_flag.ensures)

pub returns-in_ok-put_name-in-Done : goal.returns-in_ok-put_name-in-Done
returns-in_ok-put_name-in-Done c =
    same_last c.put_decision.result (λ rest. number_code 1 (name_code c.in-Done.name (result_code
    (decision_of c.in-Done.decision) rest))) (content_code (content_with c.args.words.now c.args.content.now))
    c.args.code.now c.put_decision.new.code (λ rest. ap (λ (d : Content). content_code (content_with c.args.words.now d) rest) (sym c.in-Done.is))
    (last c.put_decision.result (λ rest. number_code 1 (name_code c.in-Done.name rest)) (result_code
    (decision_of c.in-Done.decision)) c.args.code.now c.put_name-in-Done.new.code
    c.put_decision.new.code (then (number_code 1) (name_code c.in-Done.name) c.args.code.now
    c.put-in-Done.new.self c.put_name-in-Done.new.code c.in_ok-put-in-Done.ensures
    c.in_ok-put_name-in-Done.ensures) c.put_decision.ensures)

pub returns-in_ok-put_global-in-Withdraw : goal.returns-in_ok-put_global-in-Withdraw
returns-in_ok-put_global-in-Withdraw c =
    same_last c.put_cause.result (λ rest. number_code 2 (name_code c.in-Withdraw.name (global_code
    c.in-Withdraw.receiver (cause_code (cause_of_withdrawal c.in-Withdraw.cause) rest))))
    (content_code (content_with c.args.words.now c.args.content.now)) c.args.code.now c.put_cause.new.code (λ rest. ap
    (λ (d : Content). content_code (content_with c.args.words.now d) rest) (sym c.in-Withdraw.is))
    (last c.put_cause.result (λ rest. number_code 2 (name_code c.in-Withdraw.name (global_code
    c.in-Withdraw.receiver rest))) (cause_code (cause_of_withdrawal c.in-Withdraw.cause))
    c.args.code.now c.put_global-in-Withdraw.new.code c.put_cause.new.code (then (λ rest.
    number_code 2 (name_code c.in-Withdraw.name rest)) (global_code c.in-Withdraw.receiver)
    c.args.code.now c.put_name-in-Withdraw.new.code c.put_global-in-Withdraw.new.code (then
    (number_code 2) (name_code c.in-Withdraw.name) c.args.code.now c.put-in-Withdraw.new.self
    c.put_name-in-Withdraw.new.code c.in_ok-put-in-Withdraw.ensures
    c.in_ok-put_name-in-Withdraw.ensures) c.in_ok-put_global-in-Withdraw.ensures)
    c.put_cause.ensures)

pub returns-in_ok-put-in-Gone : goal.returns-in_ok-put-in-Gone
returns-in_ok-put-in-Gone c =
    same_last c.put_global-in-Gone.result (λ rest. number_code 3 (global_code c.in-Gone.id rest))
    (content_code (content_with c.args.words.now c.args.content.now)) c.args.code.now c.put_global-in-Gone.new.code
    (λ rest. ap (λ (d : Content). content_code (content_with c.args.words.now d) rest) (sym c.in-Gone.is))
    (last c.put_global-in-Gone.result (number_code 3) (global_code c.in-Gone.id) c.args.code.now
    c.put-in-Gone.new.self c.put_global-in-Gone.new.code c.in_ok-put-in-Gone.ensures
    c.put_global-in-Gone.ensures)

pub returns-in_ok-put_global-in-Order-2 : goal.returns-in_ok-put_global-in-Order-2
returns-in_ok-put_global-in-Order-2 c =
    same_last c.put_order_kind.result (λ rest. number_code 4 (global_code c.in-Order.caller (global_code
    c.in-Order.target (number_code (order_kind_code (order_kind_of c.in-Order.what)) rest)))) (content_code
    (content_with c.args.words.now c.args.content.now)) c.args.code.now c.put_order_kind.new.code (λ rest. ap
    (λ (d : Content). content_code (content_with c.args.words.now d) rest) (sym c.in-Order.is))
    (last c.put_order_kind.result (λ rest. number_code 4 (global_code c.in-Order.caller (global_code
    c.in-Order.target rest))) (number_code (order_kind_code (order_kind_of c.in-Order.what))) c.args.code.now
    c.put_global-in-Order-2.new.code c.put_order_kind.new.code (then (λ rest. number_code 4 (global_code
    c.in-Order.caller rest)) (global_code c.in-Order.target) c.args.code.now
    c.put_global-in-Order.new.code c.put_global-in-Order-2.new.code (then (number_code 4)
    (global_code c.in-Order.caller) c.args.code.now c.put-in-Order.new.self
    c.put_global-in-Order.new.code c.in_ok-put-in-Order.ensures c.in_ok-put_global-in-Order.ensures)
    c.in_ok-put_global-in-Order-2.ensures) c.put_order_kind.ensures)

pub returns-in_ok-put-in-OrderDone : goal.returns-in_ok-put-in-OrderDone
returns-in_ok-put-in-OrderDone c =
    same_last c.put_global-in-OrderDone.result (λ rest. number_code 5 (global_code
    c.in-OrderDone.caller rest)) (content_code (content_with c.args.words.now c.args.content.now)) c.args.code.now
    c.put_global-in-OrderDone.new.code (λ rest. ap (λ (d : Content). content_code (content_with c.args.words.now d)
    rest) (sym c.in-OrderDone.is))
    (last c.put_global-in-OrderDone.result (number_code 5) (global_code c.in-OrderDone.caller)
    c.args.code.now c.put-in-OrderDone.new.self c.put_global-in-OrderDone.new.code
    c.in_ok-put-in-OrderDone.ensures c.put_global-in-OrderDone.ensures)

pub returns-in_ok-put-in-Retarget : goal.returns-in_ok-put-in-Retarget
returns-in_ok-put-in-Retarget c =
    same_last c.put_owed.result (λ rest. number_code 6 (owed_code (owed_of c.in-Retarget.owed)
    rest)) (content_code (content_with c.args.words.now c.args.content.now)) c.args.code.now c.put_owed.new.code
    (λ rest. ap (λ (d : Content). content_code (content_with c.args.words.now d) rest) (sym c.in-Retarget.is))
    (last c.put_owed.result (number_code 6) (owed_code (owed_of c.in-Retarget.owed)) c.args.code.now
    c.put-in-Retarget.new.self c.put_owed.new.code c.in_ok-put-in-Retarget.ensures
    c.put_owed.ensures)
