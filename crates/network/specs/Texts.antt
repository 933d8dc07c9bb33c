-- How a call and its answer are printed.
use Rattle.std.specs.Prelude.{ℕ, List, ◌++◌, Some, None, Ok, Err, codes, decimal, Option, Result}
use Rattle.closure.specs.Refusals.{refusal_text}
use Rattle.network.specs.Faults.{described}
use Rattle.network.specs.declared.call.Call.{Call}
use Rattle.network.specs.declared.fault.NetworkFault.{NetworkFault}
use Rattle.network.specs.declared.call.Call.TheVariants.{Open, Insert, Edge, Closure}

-- I to J
abbrev pub pair_text : ℕ → ℕ → List ℕ
pair_text i j = decimal i ++ (codes " to " ++ decimal j)

-- insert I to J, EDGE
abbrev pub insert_text : ℕ → ℕ → Option (List ℕ) → Option (List ℕ)
insert_text i j None = None
insert_text i j (Some edge) = Some (codes "insert " ++ (decimal i ++ (codes " to " ++ (decimal j ++ (codes ", " ++ edge)))))

module _ {E : Type 0} (shown : E → Option (List ℕ)) where
  abbrev pub call_text : Call E → Option (List ℕ)
  call_text (Open n) = Some (codes "open " ++ (decimal n ++ codes " nodes"))
  call_text (Insert i j e) = insert_text i j (shown e)
  call_text (Edge i j) = Some (codes "edge " ++ pair_text i j)
  call_text (Closure i j) = Some (codes "closure " ++ pair_text i j)

  -- an entry that was read, or that the call was accepted or refused
  abbrev pub answer_text : {F : Type 0} → Result (Option E) (NetworkFault F) → Option (List ℕ)
  answer_text (Ok None) = Some (codes "accepted")
  answer_text (Ok (Some e)) = shown e
  answer_text (Err w) = Some (refusal_text (described w))
