-- The version, as C is told.
use Rattle.laws.proofs.Basics.{◌≡◌}
use Rattle.selection.specs.declared.Refusal.{Refusal}
use Rattle.demands.specs.Calls.{told, NamesVersion}

pub names_version : {x : Refusal} → x ≡ told 0 0 → NamesVersion x
names_version e = record { nothing = e }
