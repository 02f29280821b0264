-- What a reading function returned, against what the bytes are read as.
use Rattle.std.specs.Prelude.{◌≡◌, ℕ, Result, Ok, Err}
use Rattle.dg_columns.specs.declared.fault.ReadFault.{ReadFault}
use Rattle.dg_columns.specs.declared.fault.ReadFault.TheVariants as fault

-- the fault names the offset of the damage, or says that memory ran out
abbrev pub IsFaultOf : {Y : Type 0} → ReadFault → Result Y ℕ → Type 0
IsFaultOf (fault.Damaged offset) read = read ≡ Err offset
IsFaultOf fault.Memory read = Unit {0}

-- what was returned, seen by view, is what the bytes are read as, unless memory ran out
abbrev pub IsReadAs : {X Y : Type 0} → (X → Y) → Result X ReadFault → Result Y ℕ → Type 0
IsReadAs view (Ok x) read = read ≡ Ok (view x)
IsReadAs view (Err e) read = IsFaultOf e read
