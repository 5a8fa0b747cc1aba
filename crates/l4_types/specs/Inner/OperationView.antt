-- An operation of the program, as one of the model.
use Rattle.l4_types.specs.declared.operations.Operation.{Operation}
use Rattle.l4_types.specs.declared.operations.Operation.TheVariants as operations
use Rattle.l4_model.specs.Machine as machine

abbrev pub operation_of : Operation → machine.Operation
operation_of operations.Sum = machine.Sum
