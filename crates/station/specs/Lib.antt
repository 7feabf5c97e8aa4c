pub mod BothPass
