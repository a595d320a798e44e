mod SmallMachines
mod Serving
