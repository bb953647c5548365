use Rattle.wire_write.proofs.numerals.+append_hex.Given as goal

abbrev pub decreases-append_hex : goal.decreases-append_hex
decreases-append_hex l = l.number
