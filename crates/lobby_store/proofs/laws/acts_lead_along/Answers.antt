use Rattle.lobby_store.proofs.LeadingAlong.{leads_act, leads_plan}
use Rattle.lobby_store.proofs.laws.acts_lead_along.Goals as goal

pub returns : goal.returns
returns c = record { act = leads_act; plan = leads_plan }
