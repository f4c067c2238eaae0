mod Taking
mod Carrying
