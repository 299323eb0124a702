mod Ends
mod Memories
mod Written
mod Remedies
