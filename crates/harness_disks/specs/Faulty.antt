-- What a faulty disk shows.
use Rattle.std.specs.Prelude.{◌≡◌, false}
use Rattle.harness_disks.specs.declared.faulty.Faulty.{Faulty}

-- the disk that it passes calls on to
abbrev pub inner_of : {D : Type 0} → Faulty D → D
inner_of f = f.inner

-- it has refused no call
abbrev pub HasRefusedNone : {D : Type 0} → Faulty D → Type 0
HasRefusedNone f = (f.refused ≡ 0) × (f.sync_refused ≡ false)
