mod Answered
mod NewMaps
mod Told
