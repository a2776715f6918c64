-- `loc_audit::audit::audit_areas` meets its contract.
use borrow.Author.Rules.{rules}
use Rattle.loc_audit.proofs.AuditLaws.{audit_refused, auditable, audit_done}
use Rattle.loc_audit.proofs.audit.audit_areas.Goals as goal

pub returns-in_err-found : goal.returns-in_err-found
returns-in_err-found c = search (rules, audit_refused)

pub areas_sound-requires : goal.areas_sound-requires
areas_sound-requires c = (auditable _ _ _ c.in_ok-found.ensures, c.in_ok-found.ensures.found.count)

pub returns : goal.returns
returns c = audit_done _ _ _ c.in_ok-found.ensures _ c.areas_sound.ensures _ c.from.ensures
