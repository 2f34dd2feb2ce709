-- The lowest number below a bound that passes a test.
unfoldable pub use Rattle.lookup.specs.Search.{from, lowest}
pub use Rattle.lookup.specs.Search.{Lowest, found_of}
