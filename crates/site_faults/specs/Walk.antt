-- What a walk over the sites of a text does to what it found.
use Rattle.std.specs.Prelude.{◌≡◌, List, map}
use Rattle.name_kinds.specs.of_zpl_names.Sites.{Site}
use Rattle.site_faults.specs.declared.findings.Findings.{Findings}
use Rattle.site_faults.specs.Findings.{State, after, walked}
use Rattle.site_faults.specs.Found.{found_in}
use Rattle.site_faults.specs.Reach.{call_site_of}

-- what is found so far
abbrev pub state_of : Findings → State
state_of findings = record {
  fault = found_in findings.fault;
  calls = map call_site_of findings.calls.items;
  reached = findings.reached;
}

-- one site was looked at
abbrev pub Tells : Findings → Findings → Site → Type 0
Tells old new site = state_of new ≡ after (state_of old) site

-- these sites were looked at
abbrev pub Walks : Findings → Findings → List Site → Type 0
Walks old new sites = state_of new ≡ walked (state_of old) sites
