pub mod Endings
pub mod Action
pub mod Cores
pub mod Hearing
pub mod Inboxes
pub mod Opening
pub mod Posting
mod LetterQueues
pub mod Nodes
pub mod Going
pub mod Replays
pub mod Stamps
pub mod Systems
pub mod Sought
pub mod Enough
pub mod Walks
