-- Worked rows, computed.
pub mod Writing
pub mod Messages
pub mod Retargets
pub mod Queues
pub mod Timeouts
pub mod Orders
pub mod Refused
pub mod Values
pub mod Lawless
pub mod Registers
pub mod Acceptance
pub mod ZeroSends
pub mod Clocks
pub mod Wishes
pub mod Deleted
pub mod Impossible
pub mod Servers
pub use Rattle.l4_model.proofs.Rows.Messages.{first_path, first_path_trace, two_processors, two_processors_trace, answer, answer_trace, originator, originator_trace, propagates, propagates_trace}
pub use Rattle.l4_model.proofs.Rows.Queues.{order_of_arrival, order_of_arrival_trace, closed_receive, closed_receive_trace, nobody_there, nobody_there_trace, mutual_sends, mutual_sends_trace, room_one, room_one_trace}
pub use Rattle.l4_model.proofs.Rows.Timeouts.{zero_send, zero_send_trace, crossing_calls, crossing_calls_trace, withdrawn_too_late, withdrawn_too_late_trace, withdrawn, withdrawn_trace, finite_receive, finite_receive_trace, zero_receive, zero_receive_trace, timeouts, timeouts_trace}
pub use Rattle.l4_model.proofs.Rows.Orders.{cancels, cancels_trace, cancelled_receive, cancelled_receive_trace, deletion, deletion_trace, deletes_itself, deletes_itself_trace, call_deleted_a, call_deleted_a_trace, call_deleted_b, call_deleted_b_trace}
