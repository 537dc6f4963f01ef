-- A list of calls made one by one on a new house, and what is promised of it. Read in this order.
pub mod Desk
pub mod Seen
pub mod Replay
