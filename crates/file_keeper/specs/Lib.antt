pub mod AnyKeeper
