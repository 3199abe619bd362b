-- The desks of the hall: the words of fics_words, passed on.
pub use Rattle.fics_words.specs.Desks.{IsDesk, desks}
