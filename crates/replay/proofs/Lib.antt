mod Hands
mod Handling
mod Running
