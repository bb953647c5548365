use Rattle.std.proofs.Common.{◌≡◌, ◌++◌, length, drop}
use Rattle.hujson_read.specs.Standard.{standard_of, fault_of}
use Rattle.hujson_read.specs.Scan.{settled, IsWithin}
use Rattle.hujson_read.proofs.Marks.{marked, next_byte, standard_marks, marks_fault}
use Rattle.hujson_read.proofs.standardize.Given as goal

abbrev pub invariant-loop-at : goal.invariant-loop-at
invariant-loop-at l =
    let rest = marked l.at l.mode (drop l.at l.text) in
    record {
      len : length l.out.items ≡ l.at;
      within : IsWithin l.waits l.out.items;
      told : settled l.waits (next_byte rest) l.out.items ++ standard_marks rest ≡ standard_of l.text;
      fault : marks_fault l.at l.previous rest ≡ fault_of l.text;
    }
