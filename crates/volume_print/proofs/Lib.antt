mod Lists
mod Forms
mod Rooms
mod Stretches
mod Streams
mod Putting
mod OneText
