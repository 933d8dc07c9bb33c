-- What a refusal says, and what each fault of a table says.
use Rattle.std.specs.Prelude.{ℕ, List, ◌++◌, Some, None, codes, decimal, Option}
use Rattle.closure.specs.declared.fault.Place.{Place}
use Rattle.closure.specs.declared.fault.CheckFault.{CheckFault}
use Rattle.closure.specs.declared.fault.CheckFault.TheVariants.{NodeCount, TooShort, NotANode, NotAnEdge}
use Rattle.closure.specs.declared.fault.TableFault.{TableFault}
use Rattle.closure.specs.declared.fault.TableFault.TheVariants.{Check, TooLarge, Cycle}

-- the layer whose check or step failed
pub data Layer : Type 0 where
  table : Layer
  network : Layer

-- the number of the check that failed, its place, and the semiring's own fault with 5 and 6
pub record Refusal (Fault : Type 0) : Type 0 where
  pub layer : Layer
  pub number : ℕ
  pub place : Place
  pub fault : Option Fault

abbrev pub place : ℕ → ℕ → Place
place i j = record { row = i; column = j }

-- a refusal that no place and no step is to blame for
abbrev pub plain : {F : Type 0} → Layer → ℕ → Refusal F
plain layer number = record { layer = layer; number = number; place = place 0 0; fault = None }

abbrev pub no_edge : {F : Type 0} → Layer → Place → Refusal F
no_edge layer p = record { layer = layer; number = 4; place = p; fault = None }

-- a product that no entry holds
abbrev pub too_large : {F : Type 0} → Place → F → Refusal F
too_large p w = record { layer = table; number = 5; place = p; fault = Some w }

-- a star that does not exist
abbrev pub cycle : {F : Type 0} → Place → F → Refusal F
cycle p w = record { layer = table; number = 6; place = p; fault = Some w }

-- the number of a failed check, and the place that it names
abbrev pub check_number : CheckFault → ℕ
check_number NodeCount = 1
check_number TooShort = 2
check_number NotANode = 3
check_number (NotAnEdge p) = 4

abbrev pub check_place : CheckFault → Place
check_place NodeCount = place 0 0
check_place TooShort = place 0 0
check_place NotANode = place 0 0
check_place (NotAnEdge p) = p

-- a check that failed in some layer
abbrev pub failed_check : {F : Type 0} → Layer → CheckFault → Refusal F
failed_check layer c = record { layer = layer; number = check_number c; place = check_place c; fault = None }

abbrev pub described : {F : Type 0} → TableFault F → Refusal F
described (Check c) = failed_check table c
described (TooLarge p w) = too_large p w
described (Cycle p w) = cycle p w

-- (row,column)
abbrev pub place_text : Place → List ℕ
place_text p = codes "(" ++ (decimal p.row ++ (codes "," ++ (decimal p.column ++ codes ")")))

-- refused NUMBER at (row,column)
abbrev pub refusal_text : {F : Type 0} → Refusal F → List ℕ
refusal_text r = codes "refused " ++ (decimal r.number ++ (codes " at " ++ place_text r.place))

-- a failed check reads the same in every layer
abbrev pub check_text : CheckFault → List ℕ
check_text c = refusal_text (failed_check {F = ⊥} table c)
