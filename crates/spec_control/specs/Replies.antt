-- What the control answers, each line with its line feed.
use Rattle.std.specs.Prelude.{ℕ, Bool, true, false, List, [], ◌∷◌, ◌++◌, Option, Some, None, codes, decimal}
use Rattle.slirp_settings.specs.declared.Forward.{Forward}
use Rattle.rules_forward.specs.Opened.{Opened}
use Rattle.rules_forward.specs.declared.FwdFault.{FwdFault}
use Rattle.rules_forward.specs.declared.FwdFault.TheVariants.{Taken, BadGuest, Full, Refused}
use Rattle.spec_flows.specs.declared.Tuple.{Tuple}
use Rattle.address_text.specs.Texts.{endpoint_text}
use Rattle.rules_control.specs.Commands.{proto_text}

abbrev pub reply_line : List ℕ → List ℕ
reply_line text = text ++ (10 ∷ [])

-- why a port of the host isn't given
abbrev pub fault_text : FwdFault → List ℕ
fault_text Taken = codes "taken"
fault_text BadGuest = codes "bad guest"
fault_text Full = codes "full"
fault_text Refused = codes "refused"

-- what an addition came to, by what spoke against it
abbrev pub added_text : Option FwdFault → List ℕ
added_text None = codes "ok"
added_text (Some fault) = fault_text fault

-- and a removal, by whether a forward had the port
abbrev pub removed_text : Bool → List ℕ
removed_text false = codes "not there"
removed_text true = codes "ok"

-- `forward tcp HOST GUEST`, or with `udp`
abbrev pub forward_text : Forward → List ℕ
forward_text f = codes "forward " ++ proto_text f.proto ++ codes " " ++ endpoint_text f.host ++ codes " " ++ endpoint_text f.guest

abbrev pub forward_lines : List Opened → List ℕ
forward_lines [] = []
forward_lines (opened ∷ list) = reply_line (forward_text opened.0) ++ forward_lines list

-- `flow NUMBER GUEST OTHER`
abbrev pub flow_text : ℕ × Tuple → List ℕ
flow_text flow = codes "flow " ++ decimal flow.0 ++ codes " " ++ endpoint_text flow.1.guest ++ codes " " ++ endpoint_text flow.1.other

abbrev pub flow_lines : List (ℕ × Tuple) → List ℕ
flow_lines [] = []
flow_lines (flow ∷ list) = reply_line (flow_text flow) ++ flow_lines list

-- the forwards in force, in their order, and the flows, by rising number
abbrev pub list_reply : List Opened → List (ℕ × Tuple) → List ℕ
list_reply forwards flows = forward_lines forwards ++ flow_lines flows ++ reply_line (codes "ok")
