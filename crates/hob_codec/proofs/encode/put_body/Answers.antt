use Rattle.hob_codec.proofs.encode.put_body.Goals as goal

pub returns-in-Allocation : goal.returns-in-Allocation
returns-in-Allocation c = rw c.in-Allocation.is c.put_allocation.ensures

pub returns-in-Resource : goal.returns-in-Resource
returns-in-Resource c = rw c.in-Resource.is c.put_resource.ensures
