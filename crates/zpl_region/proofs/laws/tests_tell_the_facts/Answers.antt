use Rattle.zpl_region.proofs.TestLemmas.{is_in_box_iff, is_member_iff, is_same_set_iff, is_within_limit_iff}
use Rattle.zpl_region.proofs.laws.tests_tell_the_facts.Goals as goal

pub returns : goal.returns
returns c = record { member = is_member_iff; same_set = is_same_set_iff; limit = is_within_limit_iff; in_box = is_in_box_iff }
