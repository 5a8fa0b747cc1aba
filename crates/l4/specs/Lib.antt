-- What the clauses cite of the calls that this crate re-exports.
pub use Rattle.l4_model.specs.History
pub use Rattle.l4_model.specs.Machine
pub use Rattle.l4_model.specs.Steps
pub use Rattle.l4_model.specs.World
pub use Rattle.l4_types.specs.ReportView
pub use Rattle.l4_types.specs.StepView
pub use Rattle.l4_script.specs.Texts
pub use Rattle.l4_script.specs.Versions
pub use Rattle.l4_replay.specs.Entries
pub use Rattle.l4_machine.specs.Outcomes
pub use Rattle.l4_told.specs.Told
pub use Rattle.l4_rounds.specs.ThenRest
pub use Rattle.l4_audit.specs.Audits
pub use Rattle.l4_trace.specs.Lines
pub use Rattle.l4_trace.specs.Reading
pub mod Inner
