mod Steps
mod Told
