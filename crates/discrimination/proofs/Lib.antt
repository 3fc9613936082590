mod Noting
mod Spelling
mod Parts
mod Turning
mod Starting
mod Walks
mod Retrieving
mod Finding
