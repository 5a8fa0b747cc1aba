use Rattle.l4_states.specs.Inner.Codes.{length_code, number_code}
use Rattle.std.proofs.Common.{◌+◌, ◌∷◌, ap, sym}
use Rattle.l4_codes.proofs.Writing.{other_length, same_last, usual_length}
use Rattle.l4_codes.proofs.code.Code.put_length.Goals as goal

pub returns-then-length-usual : goal.returns-then-length-usual
returns-then-length-usual c =
    same_last c.put.result (number_code 0) (number_code (length_code c.args.usual c.args.length))
    c.args.self.now c.put.new.self
    (λ rest. ap (λ n. n ∷ rest) (sym (usual_length c.args.usual c.args.length
    c.if-length-usual.true))) c.put.ensures

pub returns : goal.returns
returns c =
    same_last c.put-2.result (number_code (c.args.length + 1)) (number_code (length_code
    c.args.usual c.args.length)) c.args.self.now c.put-2.new.self
    (λ rest. ap (λ n. n ∷ rest) (sym (other_length c.args.usual c.args.length
    c.if-length-usual.false))) c.put-2.ensures
