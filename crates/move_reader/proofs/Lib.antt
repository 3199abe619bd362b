pub mod ByteMeanings
pub mod PartReaders
pub mod Readings
pub mod SpelledWords
pub mod WhatIsRead
