use Rattle.std.proofs.Common.{◌≡◌, None, subst, sym}
use Rattle.std.specs.Prelude.{IfOk}
use Rattle.net_rows.specs.Damage.{damage}
use Rattle.net_rows.specs.Rows.{after}
use Rattle.net_rows.specs.declared.machine.Machine.{Machine}
use Rattle.net_rows.proofs.Sounds.{sound_of, no_damage}
use Rattle.desk_state.specs.Rows.{row_replaced}
use Rattle.machine_asks.specs.Update.{told_row}
use Rattle.machine_asks.specs.OneMap.{IsLiveRow, after_change, map_after_update}
use Rattle.machine_asks.proofs.Updates.{told_live, told_sound}
use Rattle.machine_asks.proofs.map_ask.map_decision.Goals as goal

pub map_after_update-requires : goal.map_after_update-requires
map_after_update-requires c =
    let rows = c.args.at.now.rows in
    let told = told_row c.args.row.now c.in-Some.update.now in
    let same : c.in_ok-told-in-Some.told ≡ told = c.in_ok-told-in-Some.ensures.value in
    let sound = told_sound c.args.at.now c.args.row.now c.in-Some.update.now (sound_of rows c.keep_rules.ensures.tables) c.requires.live.inside (rw c.in-Some.is at c.requires.short) in
    record {
      sound = subst (λ (m : Machine). damage (after rows (row_replaced rows m)) ≡ None) (sym same) (no_damage _ sound);
      was = c.requires.live;
      told = subst (λ (m : Machine). IsLiveRow (after_change c.args.at.now (row_replaced rows m)) m) (sym same) (told_live c.args.at.now c.args.row.now c.in-Some.update.now c.requires.live);
    }

pub returns-in_ok-told-in-Some : goal.returns-in_ok-told-in-Some
returns-in_ok-told-in-Some c =
    let state = c.args.at.now in
    let was = c.args.row.now in
    let same : c.in_ok-told-in-Some.told ≡ told_row was c.in-Some.update.now = c.in_ok-told-in-Some.ensures.value in
    record { value = rw c.in-Some.is (subst (λ (m : Machine). IfOk c.map_after_update.result (λ d. d ≡ map_after_update state was m)) same c.map_after_update.ensures.value) }
