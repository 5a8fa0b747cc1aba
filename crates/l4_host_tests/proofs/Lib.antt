mod GoneOn
