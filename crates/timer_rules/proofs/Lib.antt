mod Buffers
mod BufferTurns
