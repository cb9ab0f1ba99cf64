use Rattle.s3r_desk.proofs.planning.plan_of.Goals as goal

pub returns-in-GetTags-clause-fits : goal.returns-in-GetTags-clause-fits
returns-in-GetTags-clause-fits c = c.get_tags.ensures.fits _

pub returns-in-GetHold-clause-fits : goal.returns-in-GetHold-clause-fits
returns-in-GetHold-clause-fits c = c.get_hold.ensures.fits _

pub returns-in-DeleteObject-clause-fits : goal.returns-in-DeleteObject-clause-fits
returns-in-DeleteObject-clause-fits c = c.delete_object.ensures.fits _ c.location_of-location-in-DeleteObject.ensures.within

pub returns-in-PutTags-clause-fits : goal.returns-in-PutTags-clause-fits
returns-in-PutTags-clause-fits c = c.put_tags.ensures.fits _ c.location_of-location-in-PutTags.ensures.within

pub returns-in-PutHold-clause-fits : goal.returns-in-PutHold-clause-fits
returns-in-PutHold-clause-fits c = c.put_hold.ensures.fits _ c.location_of-location-in-PutHold.ensures.within

pub returns-in-DeleteReplication-clause-fits : goal.returns-in-DeleteReplication-clause-fits
returns-in-DeleteReplication-clause-fits c = c.delete_replication.ensures.fits _ c.location_of-location-in-DeleteReplication.ensures.within
