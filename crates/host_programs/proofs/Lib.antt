mod Each
mod Filtering
mod Having
mod InTime
mod Laid
mod OneExit
mod Returning
mod Shapes
