-- Searches over all addresses, for definitions: nothing runs them.
use Rattle.std.specs.Prelude.{◌^◌, Bool, true, false, ◌||◌}
use Rattle.tail_base.specs.Searches.{some_below}
use Rattle.net_addr.specs.Bits.{Address}

-- Some address of either family passes the test.
unfoldable pub some_address : (Address → Bool) → Bool
some_address test =
    some_below (2 ^ 32) (λ x. test (record { v6 = false; bits = x }))
    || some_below (2 ^ 128) (λ x. test (record { v6 = true; bits = x }))
